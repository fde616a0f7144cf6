use Rattle.std.proofs.Common.{◌<◌, Option, sym, subst}
use Rattle.std.specs.Prelude.{IfSome}
use Rattle.rtp_extension.specs.declared.mapped.Mapped.{Mapped}
use Rattle.producer.proofs.Fitting.{received-fits}
use Rattle.producer.proofs.producer.Producer.receive.Goals as goal

pub returns-clause-fits : goal.returns-clause-fits
returns-clause-fits c each =
    subst (λ (o : Option Mapped). IfSome o (λ m. m.payload_type < 128)) (sym c.mapped.ensures) (received-fits c.args.self.now.params c.args.self.now.mapping c.args.view.now each)
