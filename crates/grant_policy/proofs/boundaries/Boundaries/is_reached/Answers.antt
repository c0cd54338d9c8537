use Rattle.std.proofs.Common.{◌<◌, ◌∙◌, ℕ, List, length, get_or, ap, subst}
use Rattle.grant_policy.specs.Boundaries.{is_reached}
use Rattle.grant_policy.proofs.RegionLemmas.{reaches}
use Rattle.grant_policy.proofs.boundaries.Boundaries.is_reached.Goals as goal

pub returns-in-Some : goal.returns-in-Some
returns-in-Some c =
    let bs = c.self.inside.sorted.items in
    let key = c.args.key.now in
    let found = c.in-Some.ensures.lookup.3 in
    let below : c.args.place < length bs = subst (λ (l : List (List ℕ)). c.args.place < length l) c.deref.ensures.value found.0 in
    let is = found.1 c.in-Some.boundary.now ∙ ap (λ (l : List (List ℕ)). get_or l c.args.place c.in-Some.boundary.now) c.deref.ensures.value in
    c.is_reached.ensures ∙ ap (is_reached key) is ∙ rw (← c.self.view_is) (reaches bs c.self.invariant key c.args.place c.in-Some.boundary.now below)
