-- The deadline that runs while a peer is waited for.
use Rattle.std.specs.Prelude.{◌≡◌, ℕ, Bool, true, List, [], ◌∷◌, Option, option_map, is_ok, ⊤}
use Rattle.std.specs.List.{flat_map}
use Rattle.std.specs.Duration.{as_nanos}
use Rattle.std.proofs.Common.{◌++◌, refl, sym, subst}
use Rattle.std.proofs.lemmas.Grind.{flat_map-append}
use Rattle.office_wire.specs.Order.{Follows}
use Rattle.office_wire.proofs.OrderLemmas.{follows_none, follows_join}
use Rattle.wire_tcp.specs.declared.pace.Awaited.{Awaited}
use Rattle.wire_tcp.specs.declared.pace.Awaited.TheVariants.{First, Next, Rest, Taking}
use Rattle.wire_tcp.specs.declared.pace.Pace.{Pace}
use Rattle.wire_tcp.specs.declared.pace.Running.{Running}
use Rattle.wire_tcp.specs.Limits.{Limits, limits_in, IsWithin}
use Rattle.wire_tcp.specs.Waits.{Call, reading, writing, Noted, Wait, noted, between, less, spent_in}

-- what is awaited, and how much of the time for it is left
pub record Deadline : Type 0 where
  pub awaited : Awaited
  pub left : Option ℕ

abbrev pub deadline_of : Running → Deadline
deadline_of r = record { awaited = r.awaited; left = option_map as_nanos r.left }

abbrev pub limits_of : Pace → Limits
limits_of p = limits_in p.patience p.age.longest

abbrev pub fresh : Awaited → Option ℕ → Deadline
fresh awaited time = record { awaited = awaited; left = time }

-- what a read or a write awaits: after something was written a read awaits the next request
abbrev pub during : Option ℕ → Awaited → Option ℕ → Call → Deadline
during patience Taking left reading = fresh Next patience
during patience awaited left reading = fresh awaited left
during patience Taking left writing = fresh Taking left
during patience awaited left writing = fresh Taking patience

-- how it goes on after a call that awaited this: a request that has begun is to come whole
abbrev pub after : Option ℕ → Awaited → Option ℕ → Bool → Option ℕ → Deadline
after patience First left true spent = fresh Rest patience
after patience Next left true spent = fresh Rest patience
after patience awaited left done spent = fresh awaited (less left spent)

-- a request after the first is awaited only while the connection is young
abbrev pub IsInTime : Option ℕ → Option ℕ → Awaited → Option ℕ → Option ℕ → Type 0
IsInTime longest connected Next now limit = IsWithin (less longest (between connected now)) limit
IsInTime longest connected awaited now limit = ⊤

-- these waits, one after the other, each within what is left of its deadline
abbrev pub Leads : Limits → Option ℕ → Deadline → List Wait → Deadline → Type 0
Leads limits connected d [] e = e ≡ d
Leads limits connected d (w ∷ waits) e =
    let now = during limits.patience d.awaited d.left w.call in
    IsWithin now.left w.limit × IsInTime limits.longest connected now.awaited w.begun w.limit
    × Leads limits connected (after limits.patience now.awaited now.left (is_ok w.outcome) (spent_in w)) waits e

-- such waits, and nothing else, were noted between
abbrev pub ArePaced : Pace → Running → Running → Option (List Noted) → Option (List Noted) → Type 0
ArePaced pace before now old new =
    (waits : List Wait) × Follows old new (flat_map noted waits) × Leads (limits_of pace) (option_map as_nanos pace.age.begun) (deadline_of before) waits (deadline_of now)

-- ---- none, and one after the other

pub paced_none : (pace : Pace) (r : Running) (a : Option (List Noted)) → ArePaced pace r r a a
paced_none pace r a = ([], follows_none a, refl)

leads_join : (limits : Limits) (connected : Option ℕ) (d e f : Deadline) (xs ys : List Wait) → Leads limits connected d xs e → Leads limits connected e ys f → Leads limits connected d (xs ++ ys) f
leads_join limits connected d e f [] ys p q = subst (λ (x : Deadline). Leads limits connected x ys f) p q
leads_join limits connected d e f (w ∷ xs) ys p q =
    let now = during limits.patience d.awaited d.left w.call in
    (p.0, p.1, leads_join limits connected (after limits.patience now.awaited now.left (is_ok w.outcome) (spent_in w)) e f xs ys p.2 q)

pub paced_join : (pace : Pace) (r s t : Running) (a b c : Option (List Noted)) → ArePaced pace r s a b → ArePaced pace s t b c → ArePaced pace r t a c
paced_join pace r s t a b c p q = (
  p.0 ++ q.0,
  subst (Follows a c) (sym (flat_map-append noted p.0 q.0)) (follows_join a b c (flat_map noted p.0) (flat_map noted q.0) p.1 q.1),
  leads_join (limits_of pace) (option_map as_nanos pace.age.begun) (deadline_of r) (deadline_of s) (deadline_of t) p.0 q.0 p.2 q.2,
)
