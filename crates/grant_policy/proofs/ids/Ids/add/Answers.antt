use Rattle.std.proofs.Common.{◌≡◌, false, sym, ◌∙◌, codes}
use Rattle.std.specs.Prelude.{bytes_eq}
use Rattle.grant_policy.proofs.IdLemmas.{id_free, id_repeated, ids_added}
use Rattle.grant_policy.proofs.ids.Ids.add.Goals as goal

pub returns-then-not-branch-clause-exact : goal.returns-then-not-branch-clause-exact
returns-then-not-branch-clause-exact c = λ ids same.
    let open' : bytes_eq c.args.id.now (codes "closing") ≡ false = rw (← c.as_bytes.ensures.octets, ← c.as_bytes-2.ensures.value) (sym c.eq.ensures ∙ c.if-eq.false) in
    id_repeated c.args.number c.self.inside.seen.keys ids c.args.id.now open' (sym c.if-not-branch.true ∙ rw c.in_ok-try_copy.ensures at c.in_ok-insert.ensures.added) (rw c.self.view_is same)

pub returns-clause-exact : goal.returns-clause-exact
returns-clause-exact c = λ ids same.
    let open' : bytes_eq c.args.id.now (codes "closing") ≡ false = rw (← c.as_bytes.ensures.octets, ← c.as_bytes-2.ensures.value) (sym c.eq.ensures ∙ c.if-eq.false) in
    id_free c.args.number c.self.inside.seen.keys ids c.args.id.now open' (sym c.if-not-branch.false ∙ rw c.in_ok-try_copy.ensures at c.in_ok-insert.ensures.added) (rw c.self.view_is same)

pub returns-clause-added : goal.returns-clause-added
returns-clause-added c = λ ids same.
    ids_added c.self.inside.seen.keys c.insert.new.self.keys ids c.args.id.now (rw c.in_ok-try_copy.ensures at c.in_ok-insert.ensures.updates.0) (rw c.self.view_is same)
