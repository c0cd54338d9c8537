-- Reads and writes that were begun again.
use Rattle.std.proofs.Common.{◌≡◌, ◌<◌, ◌+◌, inl, inr, ◌∙◌, ℕ, zero, suc, List, [], ◌∷◌, ◌++◌, length, Option, Result, Ok, Err, IsErrAnd, is_ok, refl, sym, ap, subst, append-nil, length-append, arith}
use Rattle.std.specs.List.{flat_map, AllByRecursion}
use Rattle.std.specs.IoError.{error_kind}
use Rattle.std.specs.declared.io.Error.{Error}
use Rattle.std.specs.declared.io.ErrorKind.{ErrorKind}
use Rattle.std.specs.declared.io.ErrorKind.TheVariants.{Interrupted}
use Rattle.std.proofs.lemmas.Grind.{flat_map-append}
use Rattle.office_wire.specs.declared.ending.Ending.{Ending}
use Rattle.office_wire.specs.declared.serve_fault.ServeFault.{ServeFault}
use Rattle.office_wire.specs.Order.{Follows}
use Rattle.office_wire.specs.Serving.{CountsEnded}
use Rattle.office_wire.proofs.OrderLemmas.{follows_none, follows_join}
use Rattle.wire_tcp.specs.Waits.{Call, reading, writing, Noted, clock, made, Wait, noted, outcome}
use Rattle.wire_tcp.specs.Tries.{IsCut, IsVain, waits_in, AreTried, IsOnce, AreCuts, IsTry, AreTrying}
use Rattle.wire_tcp.specs.Trials.{AreTriedSince}

pub no_cuts : (a : Option (List Noted)) → AreCuts 0 a a
no_cuts a = ([], follows_none a, tt, refl)

all_cut : (xs ys : List Wait) → AllByRecursion IsCut xs → AllByRecursion IsCut ys → AllByRecursion IsCut (xs ++ ys)
all_cut [] ys p q = q
all_cut (x ∷ xs) ys p q = (p.0, all_cut xs ys p.1 q)

one_more : (a b c : Option (List Noted)) (cuts : List Wait) (w : Wait) → Follows a b (flat_map noted cuts) → Follows b c (noted w) → Follows a c (flat_map noted (cuts ++ w ∷ []))
one_more a b c cuts w p q =
    subst (Follows a c) (sym (flat_map-append noted cuts (w ∷ []) ∙ ap (λ (l : List Noted). flat_map noted cuts ++ l) (append-nil (noted w)))) (follows_join a b c (flat_map noted cuts) (noted w) p q)

pub cut_again : (n : ℕ) (call : Call) (r : Result ℕ Error) (a b c : Option (List Noted)) → AreCuts n a b → IsOnce call r b c → outcome r ≡ Err Interrupted → AreCuts (n + 1) a c
cut_again n call r a b c p q is =
    let count = length-append p.0 (q.0 ∷ []) in
    let so_far = p.3 in
    (p.0 ++ q.0 ∷ [], one_more a b c p.0 q.0 p.1 q.1, all_cut p.0 (q.0 ∷ []) p.2 (q.3 ∙ is, tt), omega (arith, count, so_far))

pub tried_now : (n : ℕ) (call : Call) (r : Result ℕ Error) (a b c : Option (List Noted)) → AreCuts n a b → IsOnce call r b c → (outcome r ≡ Err Interrupted → n ≡ 1000) → IsTry call r a c
tried_now n call r a b c p q last = (p.0, q.0, one_more a b c p.0 q.0 p.1 q.1, p.2, q.2, q.3, λ is. p.3 ∙ last is)

-- ---- several

one_try : (a b : Option (List Noted)) (waits : List Wait) → Follows a b (flat_map noted waits) → Follows a b (flat_map noted (waits_in (waits ∷ [])))
one_try a b waits p = subst (λ (l : List Wait). Follows a b (flat_map noted l)) (sym (append-nil waits)) p

pub trying_done : (call : Call) (n : ℕ) (a b : Option (List Noted)) → IsTry call (Ok n) a b → (call ≡ writing → 0 < n) → AreTrying 0 0 a b
trying_done call n a b p some = (
  (p.0 ++ p.1 ∷ []) ∷ [],
  one_try a b (p.0 ++ p.1 ∷ []) p.2,
  inl (record { cuts = p.0; last = p.1; count = n; all = refl; cut = p.3; moved = p.5; some = λ is. some (sym p.4 ∙ is) }, (refl, refl)),
)

in_vain : (call : Call) (e : Error) (a b : Option (List Noted)) (p : IsTry call (Err e) a b) → IsVain call (p.0 ++ p.1 ∷ [])
in_vain call e a b p = record {
  cuts = p.0;
  last = p.1;
  all = refl;
  cut = p.3;
  call_is = p.4;
  why = inl (error_kind e, p.5, λ is. p.6 (ap (λ (k : ErrorKind). let r : Result ℕ ErrorKind = Err k in r) is));
}

pub trying_read : (e : Error) (a b : Option (List Noted)) → IsTry reading (Err e) a b → AreTrying 1 0 a b
trying_read e a b p = ((p.0 ++ p.1 ∷ []) ∷ [], one_try a b (p.0 ++ p.1 ∷ []) p.2, inr (inl (0, refl, in_vain reading e a b p, (refl, refl))))

pub trying_write : (e : Error) (a b : Option (List Noted)) → IsTry writing (Err e) a b → AreTrying 0 1 a b
trying_write e a b p = ((p.0 ++ p.1 ∷ []) ∷ [], one_try a b (p.0 ++ p.1 ∷ []) p.2, inr (inr (0, refl, in_vain writing e a b p, (refl, refl))))

pub trying_none_taken : (a b : Option (List Noted)) → IsTry writing (Ok 0) a b → AreTrying 0 1 a b
trying_none_taken a b p = (
  (p.0 ++ p.1 ∷ []) ∷ [],
  one_try a b (p.0 ++ p.1 ∷ []) p.2,
  inr (inr (0, refl, record { cuts = p.0; last = p.1; all = refl; cut = p.3; call_is = p.4; why = inr (refl, p.5) }, (refl, refl))),
)

-- of a peer that had just connected
pub are_tried : (ended : Result Ending ServeFault) (connected : Option ℕ) (a b c : Option (List Noted)) (reads writes r s v w : ℕ) → Follows a b (clock connected ∷ []) → AreTrying reads writes b c
    → r ≡ 0 → s ≡ 0 → v ≡ r + reads → w ≡ s + writes → CountsEnded ended r v s w → AreTried ended a c
are_tried ended connected a b c reads writes r s v w first p none nothing some more ends =
    let now : v ≡ reads = omega (arith, none, some) in
    let then : w ≡ writes = omega (arith, nothing, more) in (
      connected,
      p.0,
      reads,
      writes,
      follows_join a b c (clock connected ∷ []) (flat_map noted (waits_in p.0)) first p.1,
      p.2,
      rw (none, nothing, now, then) at ends,
    )

-- ---- one

pub once_of : (w : Wait) (a b c d : Option (List Noted)) → Follows a b (clock w.begun ∷ []) → Follows b c (made w.call w.limit w.outcome ∷ []) → Follows c d (clock w.ended ∷ [])
    → Follows a d (noted w)
once_of w a b c d before call then =
    follows_join a c d (clock w.begun ∷ made w.call w.limit w.outcome ∷ []) (clock w.ended ∷ []) (follows_join a b c (clock w.begun ∷ []) (made w.call w.limit w.outcome ∷ []) before call) then

pub cut_is : (r : Result ℕ Error) → IsErrAnd r (λ e. error_kind e ≡ Interrupted) → outcome r ≡ Err Interrupted
cut_is (Ok n) is = absurd is
cut_is (Err e) is = ap (λ (k : ErrorKind). let o : Result ℕ ErrorKind = Err k in o) is

pub was_cut : (r : Result ℕ Error) → outcome r ≡ Err Interrupted → IsErrAnd r (λ e. error_kind e ≡ Interrupted)
was_cut (Ok n) is = absurd cc
was_cut (Err e) is = cc

pub done_is : (r : Result ℕ Error) → is_ok (outcome r) ≡ is_ok r
done_is (Ok n) = refl
done_is (Err e) = refl

pub kept_done : (call : Call) (n : ℕ) (a b : Option (List Noted)) (r v s w : ℕ) → IsTry call (Ok n) a b → (call ≡ writing → 0 < n) → v ≡ r → w ≡ s → AreTriedSince r v s w a b
kept_done call n a b r v s w p some reads writes = (0, 0, trying_done call n a b p some, omega (arith, reads), omega (arith, writes))

pub kept_read : (e : Error) (a b : Option (List Noted)) (r v s w : ℕ) → IsTry reading (Err e) a b → v ≡ r + 1 → w ≡ s → AreTriedSince r v s w a b
kept_read e a b r v s w p reads writes = (1, 0, trying_read e a b p, reads, omega (arith, writes))

pub kept_write : (e : Error) (a b : Option (List Noted)) (r v s w : ℕ) → IsTry writing (Err e) a b → v ≡ r → w ≡ s + 1 → AreTriedSince r v s w a b
kept_write e a b r v s w p reads writes = (0, 1, trying_write e a b p, omega (arith, reads), writes)

pub kept_none : (a b : Option (List Noted)) (r v s w : ℕ) → IsTry writing (Ok 0) a b → v ≡ r → w ≡ s + 1 → AreTriedSince r v s w a b
kept_none a b r v s w p reads writes = (0, 1, trying_none_taken a b p, omega (arith, reads), writes)

pub some_taken : (n : ℕ) → (n ≡ 0 → ⊥) → 0 < n
some_taken zero some = absurd (some refl)
some_taken (suc n) some = omega arith

pub tried_as : (ended : Result Ending ServeFault) (a b c : Option (List Noted)) → c ≡ b → AreTried ended a b → AreTried ended a c
tried_as ended a b c same tried = rw same tried
