-- What is read item by item, and its refusals.
use Rattle.std.proofs.Common.{◌≡◌, ℕ, ◌+◌, ◌<◌, ◌≤◌, Bool, true, false, cond, List, [], ◌∷◌, ◌++◌, length, length-append, drop, get_or, Option, Some, None, Result, Ok, Err, String, Global, string_bytes, refl, sym, ap, ◌∙◌, subst, arith}
use Rattle.std.specs.Prelude.{bytes_eq, codes, is_some, option_map}
use Rattle.std.specs.List.{list_any, list_all}
use Rattle.std.specs.Map.{keys_of}
use Rattle.std.proofs.lemmas.List.{drop_all}
use Rattle.toml.specs.declared.value.Value.{Value}
use Rattle.toml.specs.Data.{Data, string, integer, float, boolean, datetime, array, table, Items, no_items, item, Members, as_str, as_array, get_member}
use Rattle.toml.specs.View.{view, items_view, members_view}
use Rattle.grant_policy.proofs.ReadLemmas.{item_here}
use Rattle.policy_build.specs.declared.build_fault.BuildFault.{BuildFault}
use Rattle.policy_build.specs.declared.build_fault.BuildFault.TheVariants.{Empty, UnknownKey}
use Rattle.policy_build.specs.declared.place.FileKey.{FileKey}
use Rattle.policy_build.specs.declared.place.Place.{Place}
use Rattle.policy_build.specs.declared.statement.Statement.{Statement}
use Rattle.policy_build.specs.Faults.{Reads, ◌>>=◌}
use Rattle.policy_build.specs.Places.{key_text, nth_of}
use Rattle.policy_build.specs.Reading.{has_only, is_text, known_keys, items_from, list_of, list_unless, one_of, rule_statement_in, statement_in, use_statement_in}
use Rattle.policy_build.proofs.LoopLemmas.{bind_step}
use Rattle.policy_build.proofs.ResolvingLaws.{bind_ok, same_Ok, not_Err}

-- ---- arrays

module _ {X : Type 0} (read : Place → Data → Result X BuildFault) (place : Place) where
  module _ (values : List Value) (before : List X) (i : ℕ) where
    at_place : (v : Value) (r : Result X BuildFault) → length before ≡ i → read (nth_of place (i + 1)) (view v) ≡ r → read (nth_of place (length before + 1)) (view v) ≡ r
    at_place v r count e = ap (λ (n : ℕ). read (nth_of place (n + 1)) (view v)) count ∙ e

    pub items_more : (v : Value) (x : X) → i < length values → v ≡ get_or values i v → length before ≡ i → read (nth_of place (i + 1)) (view v) ≡ Ok x → items_from read place before (items_view (drop i values)) ≡ items_from read place (before ++ x ∷ []) (items_view (drop (i + 1) values))
    items_more v x lt is count e =
        ap (items_from read place before) (item_here values i v lt is)
        ∙ bind_step (read (nth_of place (length before + 1)) (view v)) (λ y. items_from read place (before ++ y ∷ []) (items_view (drop (i + 1) values))) x (at_place v (Ok x) count e)

    pub items_stop : (v : Value) (fault : BuildFault) → i < length values → v ≡ get_or values i v → length before ≡ i → read (nth_of place (i + 1)) (view v) ≡ Err fault → items_from read place before (items_view (drop i values)) ≡ Err fault
    items_stop v fault lt is count e =
        ap (items_from read place before) (item_here values i v lt is)
        ∙ ap (λ r. r >>= λ y. items_from read place (before ++ y ∷ []) (items_view (drop (i + 1) values))) (at_place v (Err fault) count e)

    pub items_done : length values ≤ i → items_from read place before (items_view (drop i values)) ≡ Ok before
    items_done past = ap (λ l. items_from read place before (items_view l)) (drop_all i values past)

  pub list_some : (d : Data) (vs : List Value) → as_array d ≡ Some (items_view vs) → 0 < length vs → list_of read place d ≡ items_from read place [] (items_view vs)
  list_some (array es) [] e some = absurd (omega arith)
  list_some (array es) (v ∷ vs) e some = let same : es ≡ items_view (v ∷ vs) = cc in ap (λ l. list_of read place (array l)) same
  list_some (string text) vs e some = absurd cc
  list_some (integer z) vs e some = absurd cc
  list_some (float x) vs e some = absurd cc
  list_some (boolean b) vs e some = absurd cc
  list_some (datetime t) vs e some = absurd cc
  list_some (table ms) vs e some = absurd cc

  pub list_empty : (d : Data) (vs : List Value) → as_array d ≡ Some (items_view vs) → length vs ≡ 0 → list_of read place d ≡ Err (Empty place)
  list_empty (array es) [] e none = let same : es ≡ no_items = cc in ap (λ l. list_of read place (array l)) same
  list_empty (array es) (v ∷ vs) e none = absurd (omega arith)
  list_empty (string text) vs e none = absurd cc
  list_empty (integer z) vs e none = absurd cc
  list_empty (float x) vs e none = absurd cc
  list_empty (boolean b) vs e none = absurd cc
  list_empty (datetime t) vs e none = absurd cc
  list_empty (table ms) vs e none = absurd cc

  pub list_none : (d : Data) → as_array d ≡ None → list_of read place d ≡ one_of read place d
  list_none (array es) e = absurd cc
  list_none (string text) e = refl
  list_none (integer z) e = refl
  list_none (float x) e = refl
  list_none (boolean b) e = refl
  list_none (datetime t) e = refl
  list_none (table ms) e = refl

  -- a list that is read is not empty
  items_grow : (before : List X) (ds : Items) (xs : List X) → items_from read place before ds ≡ Ok xs → length before ≤ length xs
  items_grow before no_items xs e = omega (arith, ap (length {A = X}) (same_Ok before xs e))
  items_grow before (item d ds) xs e =
      let a = bind_ok (read (nth_of place (length before + 1)) d) (λ x. items_from read place (before ++ x ∷ []) ds) xs e in
      omega (arith, items_grow (before ++ a.0 ∷ []) ds xs a.2, length-append before (a.0 ∷ []))

  one_some : (d : Data) (xs : List X) → one_of read place d ≡ Ok xs → 0 < length xs
  one_some d xs e =
      let a = bind_ok (read (nth_of place 1) d) (λ x. Ok (x ∷ [])) xs e in
      omega (arith, ap (length {A = X}) (same_Ok (a.0 ∷ []) xs a.2))

  pub list_filled : (d : Data) (xs : List X) → list_of read place d ≡ Ok xs → 0 < length xs
  list_filled (array no_items) xs e = absurd (not_Err (Empty place) xs e)
  list_filled (array (item d ds)) xs e =
      let a = bind_ok (read (nth_of place (0 + 1)) d) (λ x. items_from read place ([] ++ x ∷ []) ds) xs e in
      omega (arith, items_grow (a.0 ∷ []) ds xs a.2)
  list_filled (string text) xs e = one_some (string text) xs e
  list_filled (integer z) xs e = one_some (integer z) xs e
  list_filled (float x) xs e = one_some (float x) xs e
  list_filled (boolean b) xs e = one_some (boolean b) xs e
  list_filled (datetime t) xs e = one_some (datetime t) xs e
  list_filled (table ms) xs e = one_some (table ms) xs e

-- ---- words in place of lists

pub text_is : (word : List ℕ) (d : Data) (text : List ℕ) → as_str d ≡ Some text → is_text word d ≡ bytes_eq text word
text_is word (string s) text e = let same : s ≡ text = cc in ap (λ t. bytes_eq t word) same
text_is word (integer z) text e = absurd cc
text_is word (float x) text e = absurd cc
text_is word (boolean b) text e = absurd cc
text_is word (datetime t) text e = absurd cc
text_is word (array ds) text e = absurd cc
text_is word (table ms) text e = absurd cc

pub text_none : (word : List ℕ) (d : Data) → as_str d ≡ None → is_text word d ≡ false
text_none word (string s) e = absurd cc
text_none word (integer z) e = refl
text_none word (float x) e = refl
text_none word (boolean b) e = refl
text_none word (datetime t) e = refl
text_none word (array ds) e = refl
text_none word (table ms) e = refl

module _ {X : Type 0} (word : List ℕ) (read : Place → Data → Result X BuildFault) (place : Place) (d : Data) where
  pub unless_word : is_text word d ≡ true → list_unless word read place d ≡ Ok None
  unless_word yes' = ap (λ b. cond b (Ok None) (list_of read place d >>= λ items. Ok (Some items))) yes'

  pub unless_list : is_text word d ≡ false → list_unless word read place d ≡ (list_of read place d >>= λ items. Ok (Some items))
  unless_list no' = ap (λ b. cond b (Ok None) (list_of read place d >>= λ items. Ok (Some items))) no'

  pub unless_filled : (xs : List X) → list_unless word read place d ≡ Ok (Some xs) → 0 < length xs
  unless_filled xs e = by (is_text word d) e
    where
      by : (b : Bool) → cond b (Ok None) (list_of read place d >>= λ items. Ok (Some items)) ≡ Ok (Some xs) → 0 < length xs
      by true f = absurd (let g : None ≡ Some xs = same_Ok None (Some xs) f in cc)
      by false f =
          let a = bind_ok (list_of read place d) (λ items. Ok (Some items)) (Some xs) f in
          let same : a.0 ≡ xs = (let g : Some a.0 ≡ Some xs = same_Ok (Some a.0) (Some xs) a.2 in cc) in
          subst (λ (l : List X). 0 < length l) same (list_filled read place d a.0 a.1)

-- ---- keys

-- the keys of a map are those of its members
pub keys_tell : (known : List FileKey) (es : List (String Global × Value)) → list_all (λ k. list_any (λ one. bytes_eq (key_text one) (string_bytes k)) known) (keys_of es) ≡ has_only known (members_view es)
keys_tell known [] = refl
keys_tell known (e ∷ es) = rw (keys_tell known es) refl

module _ (known : List FileKey) (place : Place) (es : List (String Global × Value)) where
  pub keys_known : list_all (λ k. list_any (λ one. bytes_eq (key_text one) (string_bytes k)) known) (keys_of es) ≡ true → known_keys known place (members_view es) ≡ Ok tt
  keys_known all = ap (λ b. cond b (Ok tt) (Err (UnknownKey place))) (sym (keys_tell known es) ∙ all)

  pub keys_unknown : list_all (λ k. list_any (λ one. bytes_eq (key_text one) (string_bytes k)) known) (keys_of es) ≡ false → known_keys known place (members_view es) ≡ Err (UnknownKey place)
  keys_unknown other = ap (λ b. cond b (Ok tt) (Err (UnknownKey place))) (sym (keys_tell known es) ∙ other)

-- ---- statements

module _ {V : Type 0} (view_of : V → Data) (found : Option V) (place : Place) (ms : Members) (same : option_map view_of found ≡ get_member (codes "template") ms) where
  stated : statement_in place ms ≡ cond (is_some (option_map view_of found)) (use_statement_in place ms) (rule_statement_in place ms)
  stated = ap (λ m. cond (is_some m) (use_statement_in place ms) (rule_statement_in place ms)) (sym same)

  pub stated_use : (v : V) (r : Result Statement BuildFault) → found ≡ Some v → Reads (λ s. s) r (use_statement_in place ms) → Reads (λ s. s) r (statement_in place ms)
  stated_use v r is reads = subst (Reads (λ (s : Statement). s) r) (sym (stated ∙ ap (λ o. cond (is_some (option_map view_of o)) (use_statement_in place ms) (rule_statement_in place ms)) is)) reads

  pub stated_rule : (r : Result Statement BuildFault) → found ≡ None → Reads (λ s. s) r (rule_statement_in place ms) → Reads (λ s. s) r (statement_in place ms)
  stated_rule r is reads = subst (Reads (λ (s : Statement). s) r) (sym (stated ∙ ap (λ o. cond (is_some (option_map view_of o)) (use_statement_in place ms) (rule_statement_in place ms)) is)) reads
