use Rattle.worker_requests.proofs.TextLemmas.{puts_then}
use Rattle.worker_requests.proofs.tuple_notice.put_ip.Goals as goal

pub returns-clause-puts : goal.returns-clause-puts
returns-clause-puts c =
    let before_b = puts_then c.put_octet-after_a.ensures.puts c.put-before_b.ensures.puts in
    let before_c = puts_then (puts_then before_b c.put_octet-after_b.ensures.puts) c.put-before_c.ensures.puts in
    let before_d = puts_then (puts_then before_c c.put_octet-after_c.ensures.puts) c.put-before_d.ensures.puts in
    puts_then before_d c.put_octet.ensures.puts
