use Rattle.std.proofs.Common.{◌≡◌, Some, None}
use Rattle.simple_consumer.specs.Sending.{Sending, offer}
use Rattle.pipe_consumer.specs.Streams.{stream_for}
use Rattle.pipe_consumer.proofs.Founds.{found, found-takes, found-passes, found-goes-on, found-fields, missing, missing-takes, missing-passes, missing-goes-on}
use Rattle.pipe_consumer.proofs.consumer.PipeConsumer.pass_view.Goals as goal

pub returns-in-Some-clause-when : goal.returns-in-Some-clause-when
returns-in-Some-clause-when c =
    let s : Sending = c.index_mut.result.now in
    let at : stream_for c.args.self.now c.args.mapped.ssrc ≡ Some s =
    found c.args.self.now c.self.inside.streams.items c.as_slice.result.now c.args.mapped.ssrc c.in-Some.place s c.place_of.result c.self.view_is c.as_slice.ensures.value c.place_of.ensures c.in-Some.is c.index_mut.ensures.value in
    found-takes c.args.self.now s c.args.mapped _ at c.pass_view.ensures.when

pub returns-in-Some-clause-packet : goal.returns-in-Some-clause-packet
returns-in-Some-clause-packet c =
    let s : Sending = c.index_mut.result.now in
    let at : stream_for c.args.self.now c.args.mapped.ssrc ≡ Some s =
    found c.args.self.now c.self.inside.streams.items c.as_slice.result.now c.args.mapped.ssrc c.in-Some.place s c.place_of.result c.self.view_is c.as_slice.ensures.value c.place_of.ensures c.in-Some.is c.index_mut.ensures.value in
    found-passes c.args.self.now s (offer c.args.mapped c.args.ids.now c.args.packet.now) _ at c.pass_view.ensures.packet

pub returns-in-Some-clause-state : goal.returns-in-Some-clause-state
returns-in-Some-clause-state c =
    found-goes-on c.args.self.now c.self.inside.streams.items c.as_slice.result.now (offer c.args.mapped c.args.ids.now c.args.packet.now) c.in-Some.place c.index_mut.result.now c.pass_view.new.self c.place_of.result
    c.self.view_is c.as_slice.ensures.value c.place_of.ensures c.in-Some.is c.index_mut.ensures.value c.pass_view.ensures.state

pub returns-in-Some-clause-fields : goal.returns-in-Some-clause-fields
returns-in-Some-clause-fields c fields p =
    let s : Sending = c.index_mut.result.now in
    let at : stream_for c.args.self.now c.args.mapped.ssrc ≡ Some s =
    found c.args.self.now c.self.inside.streams.items c.as_slice.result.now c.args.mapped.ssrc c.in-Some.place s c.place_of.result c.self.view_is c.as_slice.ensures.value c.place_of.ensures c.in-Some.is c.index_mut.ensures.value in
    found-fields c.args.self.now s (offer c.args.mapped c.args.ids.now c.args.packet.now) c.pass_view.result c.pass_view.new.into fields at (c.pass_view.ensures.fields fields p)

pub returns-in-None-clause-when : goal.returns-in-None-clause-when
returns-in-None-clause-when c =
    let at : stream_for c.args.self.now c.args.mapped.ssrc ≡ None =
    missing c.args.self.now c.self.inside.streams.items c.as_slice.result.now c.args.mapped.ssrc c.place_of.result c.self.view_is c.as_slice.ensures.value c.place_of.ensures c.in-None.is in
    missing-takes c.args.self.now c.args.mapped at

pub returns-in-None-clause-packet : goal.returns-in-None-clause-packet
returns-in-None-clause-packet c =
    let at : stream_for c.args.self.now c.args.mapped.ssrc ≡ None =
    missing c.args.self.now c.self.inside.streams.items c.as_slice.result.now c.args.mapped.ssrc c.place_of.result c.self.view_is c.as_slice.ensures.value c.place_of.ensures c.in-None.is in
    missing-passes c.args.self.now (offer c.args.mapped c.args.ids.now c.args.packet.now) at

pub returns-in-None-clause-state : goal.returns-in-None-clause-state
returns-in-None-clause-state c =
    missing-goes-on c.args.self.now c.self.inside.streams.items c.as_slice.result.now (offer c.args.mapped c.args.ids.now c.args.packet.now) c.place_of.result c.self.view_is c.as_slice.ensures.value c.place_of.ensures c.in-None.is
