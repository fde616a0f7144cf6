use Rattle.call_options.proofs.IpLemmas.{ip_named_is}
use Rattle.call_options.proofs.values.ip_named.Goals as goal

pub returns : goal.returns
returns c = ip_named_is c.args.text.now c.as_bytes.result.now c.read_ip.result c.as_bytes.ensures.value c.read_ip.ensures
