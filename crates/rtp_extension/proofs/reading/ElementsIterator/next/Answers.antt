use Rattle.std.proofs.Common.{◌≡◌, ◌<◌, ◌∷◌, length, ap, arith}
use Rattle.rtp_extension.specs.Reading.{elements_in}
use Rattle.rtp_extension.proofs.Front.{next_element}
use Rattle.rtp_extension.proofs.reading.ElementsIterator.next.Goals as goal

pub returns-clause-steps : goal.returns-clause-steps
returns-clause-steps c =
    next_element c.self.inside.form c.args.self.now c.self.inside.rest.now c.skip_padding-bytes.result.now c.in_ok-id.id c.in_ok-id.data.now c.in_ok-id.rest.now
    c.self.view_is (c.skip_padding-bytes.ensures.same c.self.inside.form) c.in_ok-id.ensures

pub returns-clause-goes : goal.returns-clause-goes
returns-clause-goes c =
    let left : c.args.self.now ≡ (c.in_ok-id.id, c.in_ok-id.data.now) ∷ elements_in c.self.inside.form c.in_ok-id.rest.now =
    next_element c.self.inside.form c.args.self.now c.self.inside.rest.now c.skip_padding-bytes.result.now c.in_ok-id.id c.in_ok-id.data.now c.in_ok-id.rest.now
    c.self.view_is (c.skip_padding-bytes.ensures.same c.self.inside.form) c.in_ok-id.ensures in
    let fewer : length (elements_in c.self.inside.form c.in_ok-id.rest.now) < length c.args.self.now = omega (arith, ap length left) in
    record { on = λ finite. (tt, tt, fewer); keeps = tt; rests = λ finite. tt }
