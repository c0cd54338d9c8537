use Rattle.std.proofs.Common.{sym, ◌∙◌}
use Rattle.dns_names.proofs.NameLemmas.{same_name-Decides}
use Rattle.dns_master.proofs.parting.Parting.change_origin.Goals as goal

pub returns-then-eq-clause-origin : goal.returns-then-eq-clause-origin
returns-then-eq-clause-origin c = (same_name-Decides c.args.self.now.origin c.args.self.now.file.origin).0 (sym c.eq.ensures ∙ c.if-eq.true)
