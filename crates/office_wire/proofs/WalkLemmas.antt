-- The walk of a router over rows whose parameters are whole segments: the rows that a path meets.
use Rattle.std.proofs.Common.{◌≡◌, ◌⊎◌, inl, inr, ℕ, zero, suc, ◌+◌, ◌-◌, ◌<◌, Bool, true, false, cond, List, [], ◌∷◌, length, drop, Option, Some, None, refl, sym, ap, subst, ◌∙◌, arith, ◌==◌, length-append}
use Rattle.std.specs.Prelude.{MatchBool}
use Rattle.std.proofs.lemmas.Bool.Decides.{nat_tests}
use Rattle.std.proofs.Math.Seq.{drop-length}
use Rattle.matchit.specs.Rows.{RowsOf}
use Rattle.matchit.specs.Seek.{own, step, or_else, seek, segment, has_slash, cuts, same_text, longest_from, with_suffix, param_step}
use Rattle.office_wire.specs.Parts.{before_slash}
use Rattle.office_wire.proofs.SlashLemmas.{from_slash, IsWhole, IsCut, Start, whole, empty, part, start, drop_before}

-- tokens end a segment here
abbrev pub EndsPart : List ℕ → Type 0
EndsPart [] = Unit {0}
EndsPart (x ∷ t) = x ≡ 47

-- tokens are octets, and parameters that are whole to their segment's end
abbrev pub IsGood : List ℕ → Type 0
IsGood [] = Unit {0}
IsGood (x ∷ t) = (x < 257) × (x ≡ 256 → EndsPart t) × IsGood t

-- a path that begins with this octet, and goes on so
abbrev pub BeginsWith : ℕ → (List ℕ → Type 0) → List ℕ → Type 0
BeginsWith x Next [] = ⊥
BeginsWith x Next (b ∷ path) = (b ≡ x) × Next path

-- a path is of these tokens: a parameter takes what is before the next slash, which is not empty
abbrev pub Meets : List ℕ → List ℕ → Type 0
Meets [] path = path ≡ []
Meets (x ∷ t) path = MatchBool (x == 256) ((0 < length (before_slash path)) × Meets t (from_slash path)) (BeginsWith x (λ q. Meets t q) path)

-- a path after a token that it begins with; a parameter's token, which is no octet, would be taken as a segment
met_here : (b : ℕ) (t path : List ℕ) → IsGood (b ∷ t) → Meets t path → Meets (b ∷ t) (b ∷ path)
met_here b t path good meets = by (b == 256) refl
  where
    ended : (u : List ℕ) → EndsPart u → Meets u path → from_slash path ≡ path
    ended [] end m = ap from_slash m ∙ sym m
    ended (x ∷ u) end m =
        let e : (x == 256) ≡ false = grind (arith, nat_tests) in
        slashed path (subst (λ (v : Bool). MatchBool v ((0 < length (before_slash path)) × Meets u (from_slash path)) (BeginsWith x (Meets u) path)) e m)
      where
        slashed : (p : List ℕ) → BeginsWith x (Meets u) p → from_slash p ≡ p
        slashed [] m2 = absurd m2
        slashed (c ∷ p) m2 =
            let is : c ≡ 47 = m2.0 ∙ end in
            let f : (c == 47) ≡ true = grind (arith, nat_tests) in
            rw f refl

    by : (v : Bool) → (b == 256) ≡ v → MatchBool v ((0 < length (before_slash (b ∷ path))) × Meets t (from_slash (b ∷ path))) (BeginsWith b (Meets t) (b ∷ path))
    by true e =
        let is : b ≡ 256 = grind (arith, nat_tests) in
        let f : (b == 47) ≡ false = grind (arith, nat_tests) in
        rw f (omega arith, subst (Meets t) (sym (ended t (good.1 is) meets)) meets)
    by false e = (refl, meets)

met_nil : (t : List ℕ) → Meets t [] → t ≡ []
met_nil [] m = refl
met_nil (x ∷ t) m = by (x == 256) m
  where
    by : (v : Bool) → MatchBool v ((0 < 0) × Meets t []) ⊥ → x ∷ t ≡ []
    by true m = absurd (omega (arith, m.0))
    by false m = absurd m

module _ {K : Type 0} where
  -- a row is among these
  abbrev pub Has : List ℕ → K → RowsOf K → Type 0
  Has t k [] = ⊥
  Has t k ((u, l) ∷ rows) = ((u ≡ t) × (l ≡ k)) ⊎ Has t k rows

  abbrev pub AreGood : RowsOf K → Type 0
  AreGood [] = Unit {0}
  AreGood ((t, k) ∷ rows) = IsGood t × AreGood rows

  abbrev pub AllEnd : RowsOf K → Type 0
  AllEnd [] = Unit {0}
  AllEnd ((t, k) ∷ rows) = EndsPart t × AllEnd rows

  good_row : (rows : RowsOf K) (t : List ℕ) (k : K) → AreGood rows → Has t k rows → IsGood t
  good_row [] t k good has = absurd has
  good_row ((u, l) ∷ rows) t k good (inl same) = subst IsGood same.0 good.0
  good_row ((u, l) ∷ rows) t k good (inr has) = good_row rows t k good.1 has

  ends_row : (rows : RowsOf K) (t : List ℕ) (k : K) → AllEnd rows → Has t k rows → EndsPart t
  ends_row [] t k ends has = absurd has
  ends_row ((u, l) ∷ rows) t k ends (inl same) = subst EndsPart same.0 ends.0
  ends_row ((u, l) ∷ rows) t k ends (inr has) = ends_row rows t k ends.1 has

  -- ---- one token

  good_step : (b : ℕ) (rows : RowsOf K) → AreGood rows → AreGood (step b rows)
  good_step b [] good = tt
  good_step b (([], k) ∷ rows) good = good_step b rows good.1
  good_step b ((x ∷ t, k) ∷ rows) good = by (x == b) (good_step b rows good.1)
    where
      by : (v : Bool) → AreGood (step b rows) → AreGood (cond v ((t, k) ∷ step b rows) (step b rows))
      by true rest = (good.0.2, rest)
      by false rest = rest

  end_step : (rows : RowsOf K) → AreGood rows → AllEnd (step 256 rows)
  end_step [] good = tt
  end_step (([], k) ∷ rows) good = end_step rows good.1
  end_step ((x ∷ t, k) ∷ rows) good = by (x == 256) refl (end_step rows good.1)
    where
      by : (v : Bool) → (x == 256) ≡ v → AllEnd (step 256 rows) → AllEnd (cond v ((t, k) ∷ step 256 rows) (step 256 rows))
      by true e rest = let is : x ≡ 256 = grind (arith, nat_tests) in (good.0.1 is, rest)
      by false e rest = rest

  no_catch : (rows : RowsOf K) → AreGood rows → own (step 257 rows) ≡ None
  no_catch [] good = refl
  no_catch (([], k) ∷ rows) good = no_catch rows good.1
  no_catch ((x ∷ t, k) ∷ rows) good =
      let less : x < 257 = good.0.0 in
      let e : (x == 257) ≡ false = grind (arith, nat_tests) in
      rw e (no_catch rows good.1)

  stepped : (b : ℕ) (rows : RowsOf K) (t : List ℕ) (k : K) → Has (b ∷ t) k rows → Has t k (step b rows)
  stepped b [] t k has = absurd has
  stepped b (([], l) ∷ rows) t k (inl same) = absurd cc
  stepped b (([], l) ∷ rows) t k (inr has) = stepped b rows t k has
  stepped b ((x ∷ u, l) ∷ rows) t k (inl same) =
      let is : x ≡ b = cc in
      let e : (x == b) ≡ true = grind (arith, nat_tests) in
      let rest : u ≡ t = cc in
      rw e (inl (rest, same.1))
  stepped b ((x ∷ u, l) ∷ rows) t k (inr has) = by (x == b) (stepped b rows t k has)
    where
      by : (v : Bool) → Has t k (step b rows) → Has t k (cond v ((u, l) ∷ step b rows) (step b rows))
      by true rest = inr rest
      by false rest = rest

  unstepped : (b : ℕ) (rows : RowsOf K) (t : List ℕ) (k : K) → Has t k (step b rows) → Has (b ∷ t) k rows
  unstepped b [] t k has = absurd has
  unstepped b (([], l) ∷ rows) t k has = inr (unstepped b rows t k has)
  unstepped b ((x ∷ u, l) ∷ rows) t k has = by (x == b) refl has (unstepped b rows t k)
    where
      by : (v : Bool) → (x == b) ≡ v → Has t k (cond v ((u, l) ∷ step b rows) (step b rows)) → (Has t k (step b rows) → Has (b ∷ t) k rows) → Has (b ∷ t) k ((x ∷ u, l) ∷ rows)
      by true e (inl same) rest =
          let is : x ≡ b = grind (arith, nat_tests) in
          let both : x ∷ u ≡ b ∷ t = λ i. is i ∷ same.0 i in
          inl (both, same.1)
      by true e (inr h) rest = inr (rest h)
      by false e h rest = inr (rest h)

  owned : (rows : RowsOf K) (k : K) → own rows ≡ Some k → Has [] k rows
  owned [] k e = absurd cc
  owned (([], l) ∷ rows) k e = let same : l ≡ k = cc in inl (refl, same)
  owned ((x ∷ t, l) ∷ rows) k e = inr (owned rows k e)

  owns : (rows : RowsOf K) (k : K) → Has [] k rows → (key : K) × (own rows ≡ Some key)
  owns [] k has = absurd has
  owns (([], l) ∷ rows) k has = (l, refl)
  owns ((x ∷ t, l) ∷ rows) k (inl same) = absurd cc
  owns ((x ∷ t, l) ∷ rows) k (inr has) = owns rows k has

  -- ---- a parameter

  -- where the segment does not end with a slash after an octet, no suffix is longest
  longest_none : (seg : List ℕ) (rows : RowsOf K) → cuts seg (47 ∷ []) ≡ false → AllEnd rows → longest_from seg [] rows ≡ []
  longest_none seg [] e ends = refl
  longest_none seg (([], k) ∷ rows) e ends = longest_none seg rows e ends.1
  longest_none seg ((x ∷ t, k) ∷ rows) e ends =
      let is : x ≡ 47 = ends.0 in
      rw (is, e) (longest_none seg rows e ends.1)

  longest_slash : (seg : List ℕ) (rows : RowsOf K) → AllEnd rows → longest_from seg (47 ∷ []) rows ≡ 47 ∷ []
  longest_slash seg [] ends = refl
  longest_slash seg (([], k) ∷ rows) ends = longest_slash seg rows ends.1
  longest_slash seg ((x ∷ t, k) ∷ rows) ends =
      let is : x ≡ 47 = ends.0 in
      rw is (longest_slash seg rows ends.1)

  -- and else it is the slash, if a row goes on with it
  longest_some : (seg : List ℕ) (rows : RowsOf K) → cuts seg (47 ∷ []) ≡ true → AllEnd rows → (longest_from seg [] rows ≡ []) ⊎ (longest_from seg [] rows ≡ 47 ∷ [])
  longest_some seg [] e ends = inl refl
  longest_some seg (([], k) ∷ rows) e ends = longest_some seg rows e ends.1
  longest_some seg ((x ∷ t, k) ∷ rows) e ends =
      let is : x ≡ 47 = ends.0 in
      inr (rw (is, e) (longest_slash seg rows ends.1))

  longest_has : (seg : List ℕ) (rows : RowsOf K) (x : ℕ) (t : List ℕ) (k : K) → cuts seg (47 ∷ []) ≡ true → AllEnd rows → Has (x ∷ t) k rows → longest_from seg [] rows ≡ 47 ∷ []
  longest_has seg [] x t k e ends has = absurd has
  longest_has seg (([], l) ∷ rows) x t k e ends (inl same) = absurd cc
  longest_has seg (([], l) ∷ rows) x t k e ends (inr has) = longest_has seg rows x t k e ends.1 has
  longest_has seg ((y ∷ u, l) ∷ rows) x t k e ends has =
      let is : y ≡ 47 = ends.0 in
      rw (is, e) (longest_slash seg rows ends.1)

  suffixed : (rows : RowsOf K) (x : ℕ) (t : List ℕ) (k : K) → x ≡ 47 → Has (x ∷ t) k rows → Has (x ∷ t) k (with_suffix (47 ∷ []) rows)
  suffixed [] x t k is has = absurd has
  suffixed ((u, l) ∷ rows) x t k is (inl same) =
      let cut : segment u ≡ 47 ∷ [] = ap segment same.0 ∙ ap (λ (y : ℕ). segment (y ∷ t)) is in
      let e : same_text (segment u) (47 ∷ []) ≡ true = ap (λ (s : List ℕ). same_text s (47 ∷ [])) cut in
      rw e (inl same)
  suffixed ((u, l) ∷ rows) x t k is (inr has) = by (same_text (segment u) (47 ∷ [])) (suffixed rows x t k is has)
    where
      by : (v : Bool) → Has (x ∷ t) k (with_suffix (47 ∷ []) rows) → Has (x ∷ t) k (cond v ((u, l) ∷ with_suffix (47 ∷ []) rows) (with_suffix (47 ∷ []) rows))
      by true rest = inr rest
      by false rest = rest

  unsuffixed : (s : List ℕ) (rows : RowsOf K) (t : List ℕ) (k : K) → Has t k (with_suffix s rows) → Has t k rows
  unsuffixed s [] t k has = absurd has
  unsuffixed s ((u, l) ∷ rows) t k has = by (same_text (segment u) s) has (unsuffixed s rows t k)
    where
      by : (v : Bool) → Has t k (cond v ((u, l) ∷ with_suffix s rows) (with_suffix s rows)) → (Has t k (with_suffix s rows) → Has t k rows) → Has t k ((u, l) ∷ rows)
      by true (inl same) rest = inl same
      by true (inr h) rest = inr (rest h)
      by false h rest = inr (rest h)

  step_none : (rows : RowsOf K) (path : List ℕ) → longest_from (segment path) [] rows ≡ [] → has_slash path ≡ true → param_step rows path ≡ (0, [])
  unfolding param_step
  step_none rows path e f = rw (e, f) refl

  step_whole : (rows : RowsOf K) (path : List ℕ) → longest_from (segment path) [] rows ≡ [] → has_slash path ≡ false → param_step rows path ≡ (length path, rows)
  unfolding param_step
  step_whole rows path e f = rw (e, f) refl

  step_part : (rows : RowsOf K) (path : List ℕ) → longest_from (segment path) [] rows ≡ 47 ∷ [] → param_step rows path ≡ (length (segment path) - 1, with_suffix (47 ∷ []) rows)
  unfolding param_step
  step_part rows path e = rw e refl

  -- a row after a parameter: the parameter took the segment
  pub record TookPart (rows : RowsOf K) (t : List ℕ) (k : K) (b : ℕ) (path : List ℕ) : Type 0 where
    there : Has t k rows
    some : 0 < length (before_slash (b ∷ path))
    left : drop ((param_step rows (b ∷ path)).0 - 1) path ≡ from_slash (b ∷ path)

  in_whole : (rows : RowsOf K) (t : List ℕ) (k : K) (b : ℕ) (path : List ℕ) → IsWhole (b ∷ path) → param_step rows (b ∷ path) ≡ (length (b ∷ path), rows)
      → Has t k (param_step rows (b ∷ path)).1 → TookPart rows t k b path
  in_whole rows t k b path is e has =
      let n : length (b ∷ path) - 1 ≡ length path = omega arith in
      record {
        there = rw e at has;
        some = rw is.before (omega arith);
        left = rw (e, n, is.from) (drop-length path);
      }

  in_part : (rows : RowsOf K) (t : List ℕ) (k : K) (b : ℕ) (path : List ℕ) → IsCut (b ∷ path) → 0 < length (before_slash (b ∷ path)) → param_step rows (b ∷ path) ≡ (length (segment (b ∷ path)) - 1, with_suffix (47 ∷ []) rows)
      → Has t k (param_step rows (b ∷ path)).1 → TookPart rows t k b path
  in_part rows t k b path is some e has =
      let long : length (segment (b ∷ path)) ≡ length (before_slash (b ∷ path)) + 1 = ap length is.segment ∙ length-append (before_slash (b ∷ path)) (47 ∷ []) in
      let n : suc ((length (segment (b ∷ path)) - 1) - 1) ≡ length (before_slash (b ∷ path)) = omega arith in
      record {
        there = unsuffixed (47 ∷ []) rows t k (rw e at has);
        some = some;
        left = ap (λ (r : ℕ × RowsOf K). drop (r.0 - 1) path) e ∙ ap (λ (m : ℕ). drop m (b ∷ path)) n ∙ drop_before (b ∷ path);
      }

  in_none : (rows : RowsOf K) (t : List ℕ) (k : K) (path : List ℕ) → param_step rows path ≡ (0, []) → Has t k (param_step rows path).1 → ⊥
  in_none rows t k path e has = subst (λ (r : ℕ × RowsOf K). Has t k r.1) e has

  took : (rows : RowsOf K) (t : List ℕ) (k : K) (b : ℕ) (path : List ℕ) → AllEnd rows → Has t k (param_step rows (b ∷ path)).1 → TookPart rows t k b path
  took rows t k b path ends has = by (start (b ∷ path))
    where
      cut : has_slash (b ∷ path) ≡ true → 0 < length (before_slash (b ∷ path)) → IsCut (b ∷ path)
          → (longest_from (segment (b ∷ path)) [] rows ≡ []) ⊎ (longest_from (segment (b ∷ path)) [] rows ≡ 47 ∷ []) → TookPart rows t k b path
      cut slash some is (inl e) = absurd (in_none rows t k (b ∷ path) (step_none rows (b ∷ path) e slash) has)
      cut slash some is (inr e) = in_part rows t k b path is some (step_part rows (b ∷ path) e) has

      by : Start (b ∷ path) → TookPart rows t k b path
      by (whole slash e is) = in_whole rows t k b path is (step_whole rows (b ∷ path) (longest_none (segment (b ∷ path)) rows e ends) slash) has
      by (empty slash e none) = absurd (in_none rows t k (b ∷ path) (step_none rows (b ∷ path) (longest_none (segment (b ∷ path)) rows e ends) slash) has)
      by (part slash e some is) = cut slash some is (longest_some (segment (b ∷ path)) rows e ends)

  -- a row after a parameter whose rest is met is taken
  takes : (rows : RowsOf K) (t : List ℕ) (k : K) (path : List ℕ) → AllEnd rows → Has t k rows → 0 < length (before_slash path) → Meets t (from_slash path) → Has t k (param_step rows path).1
  takes rows t k path ends has some meets = by (start path) t (ends_row rows t k ends has) has meets
    where
      by : Start path → (u : List ℕ) → EndsPart u → Has u k rows → Meets u (from_slash path) → Has u k (param_step rows path).1
      by (whole slash e is) u end h meets = rw (step_whole rows path (longest_none (segment path) rows e ends) slash) h
      by (empty slash e none) u end h meets = absurd (omega arith)
      by (part slash e is_some is) [] end h meets = absurd (let no : 47 ∷ is.behind ≡ [] = sym is.from ∙ meets in cc)
      by (part slash e is_some is) (x ∷ u) end h meets =
          rw (step_part rows path (longest_has (segment path) rows x u k e ends h)) (suffixed rows x u k end h)

  -- ---- the walk

  abbrev pub IsMet : RowsOf K → K → List ℕ → Type 0
  IsMet rows k path = (t : List ℕ) × Has t k rows × Meets t path

  pub good_of : (rows : RowsOf K) → ((t : List ℕ) (k : K) → Has t k rows → IsGood t) → AreGood rows
  good_of [] all = tt
  good_of ((t, k) ∷ rows) all = (all t k (inl (refl, refl)), good_of rows (λ u l has. all u l (inr has)))

  good_param : (rows : RowsOf K) (b : ℕ) (path : List ℕ) → AreGood rows → AreGood (param_step (step 256 rows) (b ∷ path)).1
  good_param rows b path good =
      good_of (param_step (step 256 rows) (b ∷ path)).1
      (λ t k has. good_row (step 256 rows) t k (good_step 256 rows good) (took (step 256 rows) t k b path (end_step rows good) has).there)

  -- the row of an answer is of its path
  or_cases : (x y z : Option K) (k : K) → (let o : Option K = None in z ≡ o) → or_else x (or_else y z) ≡ Some k → (x ≡ Some k) ⊎ (y ≡ Some k)
  or_cases (Some l) y z k none e = inl e
  or_cases None (Some l) z k none e = inr e
  or_cases None None z k none e = absurd cc

  met_octet : (rows : RowsOf K) (k : K) (b : ℕ) (path : List ℕ) → AreGood rows → IsMet (step b rows) k path → IsMet rows k (b ∷ path)
  met_octet rows k b path good met =
      let has = unstepped b rows met.0 k met.1 in
      (b ∷ met.0, has, met_here b met.0 path (good_row rows (b ∷ met.0) k good has) met.2)

  met_part : (rows : RowsOf K) (k : K) (b : ℕ) (path : List ℕ) → AreGood rows
      → IsMet (param_step (step 256 rows) (b ∷ path)).1 k (drop ((param_step (step 256 rows) (b ∷ path)).0 - 1) path) → IsMet rows k (b ∷ path)
  met_part rows k b path good met =
      let was = took (step 256 rows) met.0 k b path (end_step rows good) met.1 in
      (256 ∷ met.0, unstepped 256 rows met.0 k was.there, (was.some, subst (Meets met.0) was.left met.2))

  pub sound : (n : ℕ) (rows : RowsOf K) (path : List ℕ) (k : K) → AreGood rows → seek n rows path ≡ Some k → IsMet rows k (drop n path)
  unfolding seek
  sound zero rows [] k good e = ([], owned rows k e, refl)
  sound (suc n) rows [] k good e = ([], owned rows k e, refl)
  sound (suc n) rows (b ∷ path) k good e = sound n rows path k good e
  sound zero rows (b ∷ path) k good e =
      let next = param_step (step 256 rows) (b ∷ path) in
      by (or_cases (seek 0 (step b rows) path) (seek (next.0 - 1) next.1 path) (own (step 257 rows)) k (no_catch rows good) e)
      (λ f. sound 0 (step b rows) path k (good_step b rows good) f)
      (λ f. sound (next.0 - 1) next.1 path k (good_param rows b path good) f)
    where
      by : (seek 0 (step b rows) path ≡ Some k) ⊎ (seek ((param_step (step 256 rows) (b ∷ path)).0 - 1) (param_step (step 256 rows) (b ∷ path)).1 path ≡ Some k)
          → (seek 0 (step b rows) path ≡ Some k → IsMet (step b rows) k path)
          → (seek ((param_step (step 256 rows) (b ∷ path)).0 - 1) (param_step (step 256 rows) (b ∷ path)).1 path ≡ Some k
          → IsMet (param_step (step 256 rows) (b ∷ path)).1 k (drop ((param_step (step 256 rows) (b ∷ path)).0 - 1) path))
          → IsMet rows k (b ∷ path)
      by (inl f) octet behind = met_octet rows k b path good (octet f)
      by (inr f) octet behind = met_part rows k b path good (behind f)

  -- a row that a path meets has the path answered
  abbrev IsAnswered : Option K → Type 0
  IsAnswered x = (k : K) × (x ≡ Some k)

  some_left : (x y : Option K) → IsAnswered x → IsAnswered (or_else x y)
  some_left None y h = absurd (let e : (let o : Option K = None in o ≡ Some h.0) = h.1 in cc)
  some_left (Some k) y h = (k, refl)

  some_right : (x y z : Option K) → IsAnswered y → IsAnswered (or_else x (or_else y z))
  some_right None y z h = some_left y z h
  some_right (Some k) y z h = (k, refl)

  owns_met : (rows : RowsOf K) (t : List ℕ) (k : K) → Has t k rows → Meets t [] → IsAnswered (own rows)
  owns_met rows t k has m = owns rows k (subst (λ (u : List ℕ). Has u k rows) (met_nil t m) has)

  pub complete : (n : ℕ) (rows : RowsOf K) (path t : List ℕ) (k : K) → AreGood rows → Has t k rows → Meets t (drop n path) → IsAnswered (seek n rows path)
  unfolding seek
  complete zero rows [] t k good has m = owns_met rows t k has m
  complete (suc n) rows [] t k good has m = owns_met rows t k has m
  complete (suc n) rows (b ∷ path) t k good has m = complete n rows path t k good has m
  complete zero rows (b ∷ path) [] k good has m = absurd cc
  complete zero rows (b ∷ path) (x ∷ t) k good has m =
      let next = param_step (step 256 rows) (b ∷ path) in
      by (x == 256) refl m
      (λ h w. complete 0 (step b rows) path t k (good_step b rows good) h w)
      (λ h w. complete (next.0 - 1) next.1 path t k (good_param rows b path good) h w)
    where
      by : (v : Bool) → (x == 256) ≡ v → MatchBool v ((0 < length (before_slash (b ∷ path))) × Meets t (from_slash (b ∷ path))) ((b ≡ x) × Meets t path)
          → (Has t k (step b rows) → Meets t path → IsAnswered (seek 0 (step b rows) path))
          → (Has t k (param_step (step 256 rows) (b ∷ path)).1 → Meets t (drop ((param_step (step 256 rows) (b ∷ path)).0 - 1) path)
          → IsAnswered (seek ((param_step (step 256 rows) (b ∷ path)).0 - 1) (param_step (step 256 rows) (b ∷ path)).1 path))
          → IsAnswered (or_else (seek 0 (step b rows) path) (or_else (seek ((param_step (step 256 rows) (b ∷ path)).0 - 1) (param_step (step 256 rows) (b ∷ path)).1 path) (own (step 257 rows))))
      by true e m octet behind =
          let is : x ≡ 256 = grind (arith, nat_tests) in
          let here = stepped 256 rows t k (subst (λ (y : ℕ). Has (y ∷ t) k rows) is has) in
          let ends = end_step rows good in
          let there = takes (step 256 rows) t k (b ∷ path) ends here m.0 m.1 in
          let left = (took (step 256 rows) t k b path ends there).left in
          some_right _ _ _ (behind there (subst (Meets t) (sym left) m.1))
      by false e m octet behind = some_left _ _ (octet (stepped b rows t k (subst (λ (y : ℕ). Has (y ∷ t) k rows) (sym m.0) has)) m.1)
