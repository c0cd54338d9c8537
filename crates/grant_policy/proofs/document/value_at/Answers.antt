use Rattle.toml.specs.View.{view}
use Rattle.toml.proofs.Views.{table_get}
use Rattle.grant_policy.specs.declared.policy_fault.PolicyPlace.TheVariants as place
use Rattle.grant_policy.proofs.ReadLemmas.{reads_member}
use Rattle.grant_policy.proofs.document.value_at.Goals as goal

pub returns : goal.returns
returns c =
    let found = table_get c.get.result c.text.result.now c.args.table.now.entries c.get.ensures.value in
    rw (← c.text.ensures, ← found, c.ok_or.ensures.value) (reads_member (λ v. view v.now) c.get.result (place.Key c.args.number c.args.key))
