-- One wait, and the waits of a connection as rounds.
use Rattle.std.proofs.Common.{◌≡◌, ◌⊎◌, ◌<◌, inl, inr, ◌∙◌, ℕ, zero, suc, Bool, true, false, List, [], ◌∷◌, ◌++◌, length, Option, option_map, is_ok, refl, ap, subst, arith}
use Rattle.std.specs.Prelude.{◌+◌, ◌-◌, ◌≤◌, Some, None, IsSomeAnd, unwrap_or, ⊤}
use Rattle.std.specs.List.{flat_map}
use Rattle.std.specs.Duration.{as_nanos}
use Rattle.office_wire.specs.Order.{Follows}
use Rattle.office_wire.proofs.OrderLemmas.{follows_join}
use Rattle.wire_tcp.specs.declared.pace.Awaited.{Awaited}
use Rattle.wire_tcp.specs.declared.pace.Awaited.TheVariants.{First, Next, Rest, Taking}
use Rattle.wire_tcp.specs.declared.pace.Pace.{Pace}
use Rattle.wire_tcp.specs.declared.pace.Running.{Running}
use Rattle.wire_tcp.specs.Limits.{Limits, IsWithin}
use Rattle.wire_tcp.specs.Waits.{Call, reading, writing, Noted, clock, made, Wait, noted, between, less, spent_in, total, WaitsEndInTime, FitWithin, Round, waits_of, Begins, AreAll, IsRound, IsYoungAt, AreLater, AreWaits}
use Rattle.wire_tcp.specs.Deadlines.{Deadline, deadline_of, limits_of, fresh, during, after, IsInTime, Leads, ArePaced}

-- one wait, of which this was noted
pub paced_once : (pace : Pace) (r now t : Running) (w : Wait) (a b c d : Option (List Noted))
    → deadline_of now ≡ during (option_map as_nanos pace.patience) r.awaited (option_map as_nanos r.left) w.call
    → IsWithin (option_map as_nanos now.left) w.limit
    → IsInTime (option_map as_nanos pace.age.longest) (option_map as_nanos pace.age.begun) now.awaited w.begun w.limit
    → deadline_of t ≡ after (option_map as_nanos pace.patience) now.awaited (option_map as_nanos now.left) (is_ok w.outcome) (spent_in w)
    → Follows a b (clock w.begun ∷ []) → Follows b c (made w.call w.limit w.outcome ∷ []) → Follows c d (clock w.ended ∷ [])
    → ArePaced pace r t a d
paced_once pace r now t w a b c d is within young goes before call then =
    let patience = option_map as_nanos pace.patience in (
      w ∷ [],
      follows_join a c d (clock w.begun ∷ made w.call w.limit w.outcome ∷ []) (clock w.ended ∷ []) (follows_join a b c (clock w.begun ∷ []) (made w.call w.limit w.outcome ∷ []) before call) then,
      subst (λ (x : Deadline). IsWithin x.left w.limit × IsInTime (option_map as_nanos pace.age.longest) (option_map as_nanos pace.age.begun) x.awaited w.begun w.limit
          × (deadline_of t ≡ after patience x.awaited x.left (is_ok w.outcome) (spent_in w))) is (within, young, goes),
    )

-- ---- rounds

-- A round of which some has gone already: so much is left for its request to begin, for the rest of it, and for its response to be taken.
record IsOpen (begin end take : Option ℕ) (r : Round) : Type 0 where
  begun : Bool
  begins : Begins r.begins begun
  rest : begun ≡ false → r.rest ≡ []
  to_begin : AreAll reading r.begins × FitWithin begin r.begins
  to_end : AreAll reading r.rest × FitWithin end r.rest
  to_take : AreAll writing r.taking × FitWithin take r.taking

whole : (patience : Option ℕ) (r : Round) → IsOpen patience patience patience r → IsRound patience r
whole patience r is = record { begun = is.begun; begins = is.begins; rest = is.rest; to_begin = is.to_begin; to_end = is.to_end; to_take = is.to_take }

-- what is to come of a round at a deadline
abbrev Goes : Limits → Option ℕ → Awaited → Option ℕ → Round → Type 0
Goes limits connected First left r = IsOpen left limits.patience limits.patience r
Goes limits connected Next left r = IsOpen left limits.patience limits.patience r × IsYoungAt limits.longest connected r
Goes limits connected Rest left r = (r.begins ≡ []) × (AreAll reading r.rest × FitWithin left r.rest) × (AreAll writing r.taking × FitWithin limits.patience r.taking)
Goes limits connected Taking left r = (r.begins ≡ []) × (r.rest ≡ []) × (AreAll writing r.taking × FitWithin left r.taking)

-- and the rounds after it: something was written before
abbrev Follow : Limits → Option ℕ → Awaited → Round → List Round → Type 0
Follow limits connected Taking r [] = ⊤
Follow limits connected Taking r (s ∷ rounds) =
    (0 < length s.begins) × IsRound limits.patience s × IsYoungAt limits.longest connected s × AreLater limits connected s rounds
Follow limits connected awaited r rounds = AreLater limits connected r rounds

-- the waits from a deadline on
record Rounds (limits : Limits) (connected : Option ℕ) (awaited : Awaited) (left : Option ℕ) (waits : List Wait) : Type 0 where
  one : Round
  later : List Round
  all : waits ≡ waits_of one ++ flat_map waits_of later
  goes : Goes limits connected awaited left one
  follow : Follow limits connected awaited one later

abbrev none : Round
none = record { begins = []; rest = []; taking = [] }

nothing : (limits : Limits) (connected : Option ℕ) (awaited : Awaited) (left : Option ℕ) → Rounds limits connected awaited left []
nothing limits connected First left = record { one = none; later = []; all = refl; goes = record { begun = false; begins = refl; rest = λ _. refl; to_begin = (tt, tt); to_end = (tt, tt); to_take = (tt, tt) }; follow = tt }
nothing limits connected Next left = record { one = none; later = []; all = refl; goes = (record { begun = false; begins = refl; rest = λ _. refl; to_begin = (tt, tt); to_end = (tt, tt); to_take = (tt, tt) }, tt); follow = tt }
nothing limits connected Rest left = record { one = none; later = []; all = refl; goes = (refl, (tt, tt), (tt, tt)); follow = tt }
nothing limits connected Taking left = record { one = none; later = []; all = refl; goes = (refl, refl, (tt, tt)); follow = tt }

later_of : (limits : Limits) (connected : Option ℕ) (r s : Round) (rounds : List Round) → r.taking ≡ s.taking → AreLater limits connected r rounds → AreLater limits connected s rounds
later_of limits connected r s [] same p = tt
later_of limits connected r s (x ∷ rounds) same p = (subst (λ (l : List Wait). 0 < length l) same p.0, p.1, p.2, p.3, p.4)

follow_of : (limits : Limits) (connected : Option ℕ) (r s : Round) (rounds : List Round) → Follow limits connected Taking r rounds → Follow limits connected Taking s rounds
follow_of limits connected r s [] p = tt
follow_of limits connected r s (x ∷ rounds) p = p

-- something is written first
later_by : (limits : Limits) (connected : Option ℕ) (r s : Round) (rounds : List Round) → 0 < length s.taking → Follow limits connected Taking r rounds → AreLater limits connected s rounds
later_by limits connected r s [] some p = tt
later_by limits connected r s (x ∷ rounds) some p = (some, p.0, p.1, p.2, p.3)

-- ---- one wait more

module _ (limits : Limits) (connected : Option ℕ) (left : Option ℕ) (w : Wait) (waits : List Wait) where
  abbrev From : Awaited → Option ℕ → Type 0
  From awaited time = Rounds limits connected awaited time waits

  abbrev To : Awaited → Type 0
  To awaited = Rounds limits connected awaited left (w ∷ waits)

  -- a read with which a request began
  abbrev begun_by : Round → Round
  begun_by r = record { begins = w ∷ []; rest = r.rest; taking = r.taking }

  begun_all : (f : From Rest limits.patience) → w ∷ waits ≡ waits_of (begun_by f.one) ++ flat_map waits_of f.later
  begun_all f = ap (λ (l : List Wait). w ∷ l) (f.all ∙ ap (λ (l : List Wait). (l ++ (f.one.rest ++ f.one.taking)) ++ flat_map waits_of f.later) f.goes.0)

  begun_open : (time : Option ℕ) → w.call ≡ reading → is_ok w.outcome ≡ true → IsWithin time w.limit → (f : From Rest limits.patience) → IsOpen time limits.patience limits.patience (begun_by f.one)
  begun_open time call done within f = record {
    begun = true;
    begins = inl (done, refl, refl);
    rest = λ not. absurd cc;
    to_begin = ((call, tt), (within, tt));
    to_end = f.goes.1;
    to_take = f.goes.2;
  }

  begun_first : w.call ≡ reading → is_ok w.outcome ≡ true → IsWithin left w.limit → From Rest limits.patience → To First
  begun_first call done within f = record {
    one = begun_by f.one;
    later = f.later;
    all = begun_all f;
    goes = begun_open left call done within f;
    follow = later_of limits connected f.one (begun_by f.one) f.later refl f.follow;
  }

  -- one that gave nothing
  abbrev silent_by : Round → Round
  silent_by r = record { begins = w ∷ r.begins; rest = r.rest; taking = r.taking }

  silent_open : (time : Option ℕ) (r : Round) → w.call ≡ reading → is_ok w.outcome ≡ false → IsWithin time w.limit → IsOpen (less time (spent_in w)) limits.patience limits.patience r
      → IsOpen time limits.patience limits.patience (silent_by r)
  silent_open time r call done within is = record {
    begun = is.begun;
    begins = inr (done, is.begins);
    rest = is.rest;
    to_begin = ((call, is.to_begin.0), (within, is.to_begin.1));
    to_end = is.to_end;
    to_take = is.to_take;
  }

  silent_first : w.call ≡ reading → is_ok w.outcome ≡ false → IsWithin left w.limit → From First (less left (spent_in w)) → To First
  silent_first call done within f = record {
    one = silent_by f.one;
    later = f.later;
    all = ap (λ (l : List Wait). w ∷ l) f.all;
    goes = silent_open left f.one call done within f.goes;
    follow = later_of limits connected f.one (silent_by f.one) f.later refl f.follow;
  }

  -- the same of another request, which something is read of
  record Another (time : Option ℕ) : Type 0 where
    one : Round
    later : List Round
    all : w ∷ waits ≡ waits_of one ++ flat_map waits_of later
    goes : IsOpen time limits.patience limits.patience one
    young : IsYoungAt limits.longest connected one
    some : 0 < length one.begins
    follow : AreLater limits connected one later

  begun_next : (time : Option ℕ) → w.call ≡ reading → is_ok w.outcome ≡ true → IsWithin time w.limit → IsWithin (less limits.longest (between connected w.begun)) w.limit → From Rest limits.patience → Another time
  begun_next time call done within young f = record {
    one = begun_by f.one;
    later = f.later;
    all = begun_all f;
    goes = begun_open time call done within f;
    young = (young, tt);
    some = omega arith;
    follow = later_of limits connected f.one (begun_by f.one) f.later refl f.follow;
  }

  silent_next : (time : Option ℕ) → w.call ≡ reading → is_ok w.outcome ≡ false → IsWithin time w.limit → IsWithin (less limits.longest (between connected w.begun)) w.limit → From Next (less time (spent_in w)) → Another time
  silent_next time call done within young f = record {
    one = silent_by f.one;
    later = f.later;
    all = ap (λ (l : List Wait). w ∷ l) f.all;
    goes = silent_open time f.one call done within f.goes.0;
    young = (young, f.goes.1);
    some = omega arith;
    follow = later_of limits connected f.one (silent_by f.one) f.later refl f.follow;
  }

  goes_next : Another left → To Next
  goes_next a = record { one = a.one; later = a.later; all = a.all; goes = (a.goes, a.young); follow = a.follow }

  goes_taking : Another limits.patience → To Taking
  goes_taking a = record {
    one = none;
    later = a.one ∷ a.later;
    all = a.all;
    goes = (refl, refl, (tt, tt));
    follow = (a.some, whole limits.patience a.one a.goes, a.young, a.follow);
  }

  -- one of the rest of a request
  abbrev rest_by : Round → Round
  rest_by r = record { begins = []; rest = w ∷ r.rest; taking = r.taking }

  rest_read : w.call ≡ reading → IsWithin left w.limit → From Rest (less left (spent_in w)) → To Rest
  rest_read call within f = record {
    one = rest_by f.one;
    later = f.later;
    all = ap (λ (l : List Wait). w ∷ l) (f.all ∙ ap (λ (l : List Wait). (l ++ (f.one.rest ++ f.one.taking)) ++ flat_map waits_of f.later) f.goes.0);
    goes = (refl, ((call, f.goes.1.0), (within, f.goes.1.1)), f.goes.2);
    follow = later_of limits connected f.one (rest_by f.one) f.later refl f.follow;
  }

  -- a write
  abbrev taken_by : Round → Round
  taken_by r = record { begins = []; rest = []; taking = w ∷ r.taking }

  taken_all : (time : Option ℕ) (f : From Taking time) → w ∷ waits ≡ waits_of (taken_by f.one) ++ flat_map waits_of f.later
  taken_all time f = ap (λ (l : List Wait). w ∷ l) (f.all ∙ (λ i. (f.goes.0 i ++ (f.goes.1 i ++ f.one.taking)) ++ flat_map waits_of f.later))

  taken_open : (begin end time : Option ℕ) → w.call ≡ writing → IsWithin time w.limit → (f : From Taking (less time (spent_in w))) → IsOpen begin end time (taken_by f.one)
  taken_open begin end time call within f = record {
    begun = false;
    begins = refl;
    rest = λ _. refl;
    to_begin = (tt, tt);
    to_end = (tt, tt);
    to_take = ((call, f.goes.2.0), (within, f.goes.2.1));
  }

  taken_taking : w.call ≡ writing → IsWithin left w.limit → From Taking (less left (spent_in w)) → To Taking
  taken_taking call within f = record {
    one = taken_by f.one;
    later = f.later;
    all = taken_all (less left (spent_in w)) f;
    goes = (refl, refl, ((call, f.goes.2.0), (within, f.goes.2.1)));
    follow = follow_of limits connected f.one (taken_by f.one) f.later f.follow;
  }

  taken_first : w.call ≡ writing → IsWithin limits.patience w.limit → From Taking (less limits.patience (spent_in w)) → To First
  taken_first call within f = record {
    one = taken_by f.one;
    later = f.later;
    all = taken_all (less limits.patience (spent_in w)) f;
    goes = taken_open left limits.patience limits.patience call within f;
    follow = later_by limits connected f.one (taken_by f.one) f.later (omega arith) f.follow;
  }

  taken_next : w.call ≡ writing → IsWithin limits.patience w.limit → From Taking (less limits.patience (spent_in w)) → To Next
  taken_next call within f = record {
    one = taken_by f.one;
    later = f.later;
    all = taken_all (less limits.patience (spent_in w)) f;
    goes = (taken_open left limits.patience limits.patience call within f, tt);
    follow = later_by limits connected f.one (taken_by f.one) f.later (omega arith) f.follow;
  }

  taken_rest : w.call ≡ writing → IsWithin limits.patience w.limit → From Taking (less limits.patience (spent_in w)) → To Rest
  taken_rest call within f = record {
    one = taken_by f.one;
    later = f.later;
    all = taken_all (less limits.patience (spent_in w)) f;
    goes = (refl, (tt, tt), ((call, f.goes.2.0), (within, f.goes.2.1)));
    follow = later_by limits connected f.one (taken_by f.one) f.later (omega arith) f.follow;
  }

  abbrev Now : Awaited → Call → Deadline
  Now awaited call = during limits.patience awaited left call

  abbrev Then : Awaited → Call → Bool → Deadline
  Then awaited call done = after limits.patience (Now awaited call).awaited (Now awaited call).left done (spent_in w)

  step : (awaited : Awaited) (call : Call) (done : Bool) → w.call ≡ call → is_ok w.outcome ≡ done → IsWithin (Now awaited call).left w.limit
      → IsInTime limits.longest connected (Now awaited call).awaited w.begun w.limit → From (Then awaited call done).awaited (Then awaited call done).left → To awaited
  step First reading true call done within young f = begun_first call done within f
  step First reading false call done within young f = silent_first call done within f
  step Next reading true call done within young f = goes_next (begun_next left call done within young f)
  step Next reading false call done within young f = goes_next (silent_next left call done within young f)
  step Rest reading true call done within young f = rest_read call within f
  step Rest reading false call done within young f = rest_read call within f
  step Taking reading true call done within young f = goes_taking (begun_next limits.patience call done within young f)
  step Taking reading false call done within young f = goes_taking (silent_next limits.patience call done within young f)
  step First writing done call is within young f = taken_first call within f
  step Next writing done call is within young f = taken_next call within f
  step Rest writing done call is within young f = taken_rest call within f
  step Taking writing done call is within young f = taken_taking call within f

from_here : (limits : Limits) (connected : Option ℕ) (d e : Deadline) (waits : List Wait) → Leads limits connected d waits e → Rounds limits connected d.awaited d.left waits
from_here limits connected d e [] p = nothing limits connected d.awaited d.left
from_here limits connected d e (w ∷ waits) p =
    let now = during limits.patience d.awaited d.left w.call in
    let then = after limits.patience now.awaited now.left (is_ok w.outcome) (spent_in w) in
    step limits connected d.left w waits d.awaited w.call (is_ok w.outcome) refl refl p.0 p.1 (from_here limits connected then e waits p.2)

-- the waits of a peer that had just connected
pub are_waits : (pace : Pace) (r t : Running) (a b c : Option (List Noted)) → r.awaited ≡ First → r.left ≡ pace.patience → Follows a b (clock (option_map as_nanos pace.age.begun) ∷ []) → ArePaced pace r t b c
    → AreWaits (limits_of pace) a c
are_waits pace r t a b c first fresh connected p =
    let begun = option_map as_nanos pace.age.begun in
    let d : Deadline = record { awaited = First; left = option_map as_nanos pace.patience } in
    let leads = subst (λ (x : Deadline). Leads (limits_of pace) begun x p.0 (deadline_of t)) (λ i. record { awaited = first i; left = option_map as_nanos (fresh i) }) p.2 in
    let all = from_here (limits_of pace) begun d (deadline_of t) p.0 leads in (
      begun,
      all.one ∷ all.later,
      subst (λ (l : List Wait). Follows a c (clock begun ∷ flat_map noted l)) all.all (follows_join a b c (clock begun ∷ []) (flat_map noted p.0) connected p.1),
      (whole (limits_of pace).patience all.one all.goes, all.follow),
    )

-- ---- the whole of them

joined : (limit n before time : ℕ) → (limit ≡ 0) ⊎ (before + limit ≤ time - n) → (limit ≡ 0) ⊎ (n + before + limit ≤ time)
joined limit n before time (inl none) = inl none
joined zero n before time (inr fits) = inl refl
joined (suc limit) n before time (inr fits) = inr (omega (arith, fits))

still : (limit before time : ℕ) → (limit ≡ 0) ⊎ (before + limit ≤ 0) → (limit ≡ 0) ⊎ (0 + before + limit ≤ time)
still limit before time (inl none) = inl none
still limit before time (inr fits) = inl (omega (arith, fits))

after_one : (time : ℕ) (spent : Option ℕ) (before : ℕ) (limit : Option ℕ) (rest : (t : ℕ) → less (Some time) spent ≡ Some t → IsSomeAnd limit (λ l. (l ≡ 0) ⊎ (before + l ≤ t)))
    → IsSomeAnd limit (λ l. (l ≡ 0) ⊎ (unwrap_or spent 0 + before + l ≤ time))
after_one time None before None rest = rest 0 refl
after_one time (Some n) before None rest = rest (time - n) refl
after_one time None before (Some l) rest = still l before time (rest 0 refl)
after_one time (Some n) before (Some l) rest = joined l n before time (rest (time - n) refl)

at_first : (time : ℕ) (limit : Option ℕ) → IsWithin (Some time) limit → IsSomeAnd limit (λ l. (l ≡ 0) ⊎ (0 + l ≤ time))
at_first time None fits = absurd fits
at_first time (Some l) fits = inr (omega (arith, fits))

pub waits_end_in_time : WaitsEndInTime
waits_end_in_time time [] w later fits = at_first time w.limit fits.0
waits_end_in_time time (u ∷ earlier) w later fits = after_one time (spent_in u) (total earlier) w.limit
    (λ t is. waits_end_in_time t earlier w later (subst (λ (o : Option ℕ). FitWithin o (earlier ++ w ∷ later)) is fits.1))
