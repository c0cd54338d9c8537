use Rattle.std.proofs.Common.{List, ℕ, sym, subst}
use Rattle.dns_data.specs.declared.record_type.RecordType.{RecordType}
use Rattle.grant_policy.specs.Grants.{GrantsOf, AreKnown}
use Rattle.grant_policy.proofs.GrantLemmas.{gone, is_known, one_more}
use Rattle.grant_policy.proofs.grants.Regions.include.Goals as goal

pub returns-in-Some-clause-value : goal.returns-in-Some-clause-value
returns-in-Some-clause-value c =
    let grants : GrantsOf = record { rules = c.args.policy.now; caller = c.args.caller.now; action = c.args.action } in
    let before = c.args.self.now in
    let after = c.go_to.new.self in
    let are = gone grants before.boundaries before.region after.region before.known after.known c.requires c.go_to.ensures.known in
    is_known grants before.boundaries after.region after.known are c.args.name.now c.args.record_type (rw c.key.ensures.key at c.go_to.ensures.region) c.in-Some.granted (sym c.in-Some.ensures)

pub returns-in-Some-clause-known : goal.returns-in-Some-clause-known
returns-in-Some-clause-known c =
    let grants : GrantsOf = record { rules = c.args.policy.now; caller = c.args.caller.now; action = c.args.action } in
    let before = c.args.self.now in
    let after = c.go_to.new.self in
    subst (λ (bs : List (List ℕ)). AreKnown grants bs after.region after.known) (sym c.go_to.ensures.same)
    (gone grants before.boundaries before.region after.region before.known after.known c.requires c.go_to.ensures.known)

pub returns-clause-known : goal.returns-clause-known
returns-clause-known c =
    let grants : GrantsOf = record { rules = c.args.policy.now; caller = c.args.caller.now; action = c.args.action } in
    let before = c.args.self.now in
    let after = c.go_to.new.self in
    let are = gone grants before.boundaries before.region after.region before.known after.known c.requires c.go_to.ensures.known in
    let right : (t : RecordType) → _ = rw c.is_granted-granted.ensures at c.keep.ensures in
    subst (λ (bs : List (List ℕ)). AreKnown grants bs after.region c.keep.new.self) (sym c.go_to.ensures.same)
    (one_more grants before.boundaries after.region after.known are c.args.name.now c.args.record_type (rw c.key.ensures.key at c.go_to.ensures.region) c.keep.new.self right)
