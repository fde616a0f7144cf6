use Rattle.ms_base.proofs.tuple.Tuple.read_ip.Goals as goal

pub returns-in-Err : goal.returns-in-Err
returns-in-Err c octets dotted = c.in-Err.ensures (record { octets = octets }) dotted
