use Rattle.std.proofs.lemmas.Result.{IfOk-weaker}
use Rattle.std.proofs.lemmas.Simd.{map-map}
use Rattle.policy_build.specs.Making.{MadeOf, made_of}
use Rattle.policy_build.proofs.building.Built.text.Goals as goal

pub returns : goal.returns
returns c = record {
  again = rw (map-map (λ (made : MadeOf). made.rule) made_of c.args.self.now.rules.items) (IfOk-weaker c.rules_text.result _ _ (λ text again. again (λ k d lt. tt)) (rw c.deref.ensures.value at c.rules_text.ensures));
}
