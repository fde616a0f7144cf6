use Rattle.std.proofs.Common.{◌∙◌}
use Rattle.worker_requests.proofs.TextLemmas.{payload_in_parts, puts_then}
use Rattle.worker_requests.proofs.tuple_notice.write_tuple_notice.Goals as goal

pub returns-clause-payload : goal.returns-clause-payload
returns-clause-payload c =
    let before_port = puts_then (puts_then c.put-before_ip.ensures.puts c.put_ip-after_ip.ensures.puts) c.put-before_port.ensures.puts in
    let before_id = puts_then (puts_then before_port c.put_port-after_port.ensures.puts) c.put-before_id.ensures.puts in
    let whole = puts_then (puts_then before_id c.put-after_id.ensures.puts) c.put.ensures.puts in
    whole.front ∙ payload_in_parts c.args.transport c.args.tuple c.text-text.result c.text-text.ensures.value c.address_is_short.ensures.plain

pub returns-clause-behind : goal.returns-clause-behind
returns-clause-behind c =
    let before_port = puts_then (puts_then c.put-before_ip.ensures.puts c.put_ip-after_ip.ensures.puts) c.put-before_port.ensures.puts in
    let before_id = puts_then (puts_then before_port c.put_port-after_port.ensures.puts) c.put-before_id.ensures.puts in
    let whole = puts_then (puts_then before_id c.put-after_id.ensures.puts) c.put.ensures.puts in
    whole.behind
