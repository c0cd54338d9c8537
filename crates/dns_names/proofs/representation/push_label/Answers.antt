use Rattle.std.proofs.Common.{◌≡◌, ◌++◌, List, ℕ, OnOk, ap, get_or, subst, sym, take, ◌∙◌, arith, rules}
use Rattle.std.proofs.lemmas.List.{flat_map_more, take_all, take_more}
use Rattle.dns_names.specs.Keys.{key_octet, label_front}
use Rattle.dns_names.proofs.KeyLaws.{front_stands}
use Rattle.dns_names.proofs.representation.push_label.Goals as goal

pub returns-then-stand_in_keys : goal.returns-then-stand_in_keys
returns-then-stand_in_keys c =
    subst (λ (l : List ℕ). OnOk c.extend_from_slice.result (c.extend_from_slice.new.self.items ≡ c.args.key.now.items ++ l)) (sym (front_stands c.args.label.now (sym c.stand_in_keys.ensures ∙ c.if-stand_in_keys.true))) (search rules)

pub loop-octet-preserved : goal.loop-octet-preserved
loop-octet-preserved c =
    let label = c.args.label.now in
    let place = c.loop-octet.octet-index in
    let before = c.args.key.now.items in
    c.in_ok-push_octet.ensures ∙ ap (λ (l : List ℕ). l ++ key_octet (get_or label place 0)) c.loop-octet.invariant
    ∙ flat_map_more key_octet before (take place label) (get_or label place 0) ∙ ap (λ (l : List ℕ). before ++ label_front l) (sym (take_more label place 0 (omega (arith, c.loop-octet-test.true))))

pub returns : goal.returns
returns c = c.loop-octet.invariant ∙ ap (λ (l : List ℕ). c.args.key.now.items ++ label_front l) (take_all c.loop-octet.octet-index c.args.label.now c.loop-octet-test.false)
