-- The plain form of each job asks for it.
use Rattle.std.proofs.Common.{◌≡◌, ◌∙◌, ◌&&◌, ap, refl, sym, subst, ℕ, ◌+◌, Bool, true, false, List, [], ◌∷◌, ◌++◌, Option, Some, None, codes, option_map, map, min, inl, inr}
use Rattle.std.specs.Prelude.{⊤, find, fold, not, option_and_then, slice_get}
use Rattle.std.specs.List.{list_all}
use Rattle.std.specs.Str.{bytes_eq}
use Rattle.std.proofs.lemmas.List.Sums.{fold-append}
use Rattle.clap.specs.Words.{Row, Rule, Text, first_of, new_rule, one_of}
use Rattle.clap.specs.Lexer.{long_of, usize_max}
use Rattle.clap.specs.Walk.{Held, Walk, arg_by_id, arg_by_index, arg_by_long, finished, idle, most_values, nothing_held, option, reacted, reading_by, rows_after, settled, takes_values, to_positional, is_pending, used, walked, with_default, with_values, without}
use Rattle.clap.specs.Simple.{filled, with_index}
use Rattle.clap.specs.declared.parser.matches.ValueSource.TheVariants.{CommandLine}
use Rattle.clap.specs.Values.{read_as}
use Rattle.clap.proofs.SimpleLemmas.{is_false}
use Rattle.clap.proofs.WalkLemmas.{both}
use Rattle.cli_core.specs.Commands.{argument_form, argument_name, arguments_of, in_form}
use Rattle.cli_core.specs.declared.argument.Argument.{Argument}
use Rattle.cli_core.specs.declared.argument.Argument.TheVariants as argument
use Rattle.cli_core.specs.declared.argument.Form.{Form}
use Rattle.cli_core.specs.declared.argument.Form.TheVariants.{Needed, Number, Flag, Optional, Asked, Place, OptionalPlace}
use Rattle.cli_core.specs.declared.commands.Command.{Command}
use Rattle.cli_core.specs.declared.commands.Command.TheVariants as command
use Rattle.cli_core.specs.PlainForms.{AreWritten, IsPlain, IsValue, IsWritten, option_word}
use Rattle.cli_core.specs.Values.{Given, Value, text, number, flag, flag_if, number_if, number_in, value_by, values_in}
use Rattle.cli_core.specs.Jobs.{JobOf}
use Rattle.cli_core.specs.Words.{arguments_read, go_together, job_by, job_of, job_with, subjects, text_of, value_of}
use Rattle.cli_core.proofs.CommandLemmas.{job_of_command, no_words, place_walked, rules_of, standing, value_walked}
use Rattle.cli_core.proofs.RowLemmas.{default_passes, row_added, row_at, row_new, row_other, row_stays, row_with, values_pass, values_stay}

-- ---- what a parse has to find of an argument, which computes for each command

-- the position of a next word in its place, as long as it is known: after a place that may be left out it is not
abbrev position_of : Option ℕ → ℕ
position_of (Some k) = k
position_of None = 0

abbrev next_place : Option ℕ → Form → Option ℕ
next_place k Place = option_map (λ i. min (i + 1) usize_max) k
next_place k OptionalPlace = None
next_place k f = k

-- the rule of an argument as clap builds it
abbrev rule_at : Option ℕ → Form → Text → Rule
rule_at k f n = with_index (position_of k) (filled (in_form f n (new_rule n)))

abbrev reached : List Rule → Option ℕ → Form → Text → Option Rule
reached c k Place n = option_and_then (arg_by_index c) k
reached c k OptionalPlace n = option_and_then (arg_by_index c) k
reached c k f n = arg_by_long c n

-- default values that leave an argument without a value
abbrev is_absent : Form → List Text → Bool
is_absent Flag vs = not (flag_if (slice_get vs 0))
is_absent f [] = true
is_absent f (v ∷ vs) = false

abbrev is_fine : List Rule → Form → Text → List Argument → Bool
is_fine c f n rest =
    bytes_eq n n && not (bytes_eq (option_word n) (codes "--")) && list_all (λ a. not (bytes_eq n (argument_name a))) rest
    && list_all (λ a. not (bytes_eq (argument_name a) n)) rest && list_all (default_passes (is_absent f) n) c

abbrev Found : Type 0
Found = Option Rule × Option Rule × Option (Text × Option Text) × Bool

abbrev found_at : List Rule → Option ℕ → Argument → List Argument → Found
found_at c k a rest =
    (arg_by_id c (argument_name a), reached c k (argument_form a) (argument_name a), long_of (option_word (argument_name a)), is_fine c (argument_form a) (argument_name a) rest)

abbrev wanted_at : Option ℕ → Argument → Found
wanted_at k a = (Some (rule_at k (argument_form a) (argument_name a)), Some (rule_at k (argument_form a) (argument_name a)), Some (argument_name a, None), true)

abbrev all_found : List Rule → Option ℕ → List Argument → List Found
all_found c k [] = []
all_found c k (a ∷ rest) = found_at c k a rest ∷ all_found c (next_place k (argument_form a)) rest

abbrev all_wanted : Option ℕ → List Argument → List Found
all_wanted k [] = []
all_wanted k (a ∷ rest) = wanted_at k a ∷ all_wanted (next_place k (argument_form a)) rest

-- ---- rows

-- what is held when the argument whose values are being read has them
abbrev rows_in : List Rule → Held → List Row
rows_in c h = (settled c h).rows

-- the row of an argument, before defaults
abbrev row_of : Option ℕ → Form → Text → List Text → Row
row_of k f n vs = row_with n (reading_by (rule_at k f n)) CommandLine vs

-- the row that an argument has when it has a value, before defaults
abbrev IsHeld : Option ℕ → Form → Text → Value → Option Row → Type 0
IsHeld k f n (text (Some v)) row = row ≡ Some (row_of k f n (v ∷ []))
IsHeld k f n (text None) row = row ≡ None
IsHeld k f n (number (Some m)) row = (t : Text) × (number_in t ≡ Some m) × (row ≡ Some (row_of k f n (t ∷ [])))
IsHeld k f n (number None) row = row ≡ None
IsHeld k f n (flag true) row = row ≡ Some (row_of k f n (codes "true" ∷ []))
IsHeld k f n (flag false) row = row ≡ None

-- after defaults it has this value
abbrev ended : List Rule → List Row → List Row
ended c rows = fold with_default rows c

first_absent : (n : Text) (rows : List Row) → values_pass (is_absent Optional) n rows ≡ true → first_of n rows ≡ None
first_absent n rows passes = go (row_at n rows) refl
  where
    by_values : (vs : List Text) → is_absent Optional vs ≡ true → slice_get vs 0 ≡ None
    by_values [] is = refl
    by_values (v ∷ vs) is = cc

    go : (o : Option Row) → row_at n rows ≡ o → first_of n rows ≡ None
    go None is = rw is refl
    go (Some r) is = rw is (by_values r.values (rw is at passes))

one_absent : (n : Text) (rows : List Row) → values_pass (is_absent Optional) n rows ≡ true → one_of n rows ≡ None
one_absent n rows passes = go (row_at n rows) refl
  where
    by_values : (vs : List Text) → is_absent Optional vs ≡ true → slice_get vs 0 ≡ None
    by_values [] is = refl
    by_values (v ∷ vs) is = cc

    go : (o : Option Row) → row_at n rows ≡ o → one_of n rows ≡ None
    go None is = rw is refl
    go (Some r) is = rw is (ap (option_map (read_as r.reading)) (by_values r.values (rw is at passes)))

flag_absent : (n : Text) (rows : List Row) → values_pass (is_absent Flag) n rows ≡ true → flag_if (first_of n rows) ≡ false
flag_absent n rows passes = go (row_at n rows) refl
  where
    go : (o : Option Row) → row_at n rows ≡ o → flag_if (first_of n rows) ≡ false
    go None is = rw is refl
    go (Some r) is = rw is (is_false _ (rw is at passes))

module _ (c : List Rule) (k : Option ℕ) (n : Text) (rows : List Row) where
  stays : (f : Form) (vs : List Text) → row_at n rows ≡ Some (row_of k f n vs) → row_at n (ended c rows) ≡ Some (row_of k f n vs)
  stays f vs is = row_stays n rows c (row_of k f n vs) is

  none_passes : (f : Form) → row_at n rows ≡ None → list_all (default_passes (is_absent f) n) c ≡ true → values_pass (is_absent f) n (ended c rows) ≡ true
  none_passes f none fine = values_stay (is_absent f) n rows c (rw none refl) fine

  -- what is held of an argument is its value at the end
  value_ends : (f : Form) (v : Value) (words : List Text) → IsWritten f n v words → IsHeld k f n v (row_at n rows)
      → list_all (default_passes (is_absent f) n) c ≡ true → value_by f n (ended c rows) ≡ Some v
  value_ends Needed (text (Some t)) words is held fine = rw (stays Needed (t ∷ []) held) refl
  value_ends Asked (text (Some t)) words is held fine = rw (stays Asked (t ∷ []) held) refl
  value_ends Optional (text (Some t)) words is held fine = rw (stays Optional (t ∷ []) held) refl
  value_ends Optional (text None) words is held fine = ap (λ o. Some (text o)) (first_absent n (ended c rows) (none_passes Optional held fine))
  value_ends Place (text (Some t)) words is held fine = rw (stays Place (t ∷ []) held) refl
  value_ends OptionalPlace (text (Some t)) words is held fine = rw (stays OptionalPlace (t ∷ []) held) refl
  value_ends OptionalPlace (text None) words is held fine = ap (λ o. Some (text o)) (first_absent n (ended c rows) (none_passes OptionalPlace held fine))
  value_ends Number (number (Some m)) words is held fine =
      rw (stays Number (held.0 ∷ []) held.2) (ap (λ o. option_map (λ x. number x) (option_map (λ x. Some x) o)) held.1)
  value_ends Number (number None) words is held fine = ap (λ o. option_map (λ x. number x) (number_if o)) (one_absent n (ended c rows) (none_passes Number held fine))
  value_ends Flag (flag true) words is held fine = rw (stays Flag (codes "true" ∷ []) held) refl
  value_ends Flag (flag false) words is held fine = ap (λ b. Some (flag b)) (flag_absent n (ended c rows) (none_passes Flag held fine))
  value_ends f v words is held fine = absurd is

-- ---- the walk over the words of one argument

-- what is held after an option with its value, and after a word in its place
abbrev valued : List Rule → Held → Text → Text → Held
valued c h n v = record (settled c h) { pending = Some (n, v ∷ []) }

and_false : (b : Bool) → (b && false) ≡ false
and_false true = refl
and_false false = refl

module _ (c : List Rule) (p : ℕ) (h : Held) (n : Text) (r : Rule) where
  option_walked : bytes_eq (option_word n) (codes "--") ≡ false → long_of (option_word n) ≡ Some (n, None) → arg_by_long c n ≡ Some r → takes_values r ≡ true
      → walked c [] (standing p h idle) (option_word n) ≡ standing p (record (settled c h) { pending = Some (r.id, []) }) (option r.id)
  unfolding walked
  option_walked dashes long found takes = rw (dashes, long, found, takes) refl

  flag_walked : bytes_eq (option_word n) (codes "--") ≡ false → long_of (option_word n) ≡ Some (n, None) → arg_by_long c n ≡ Some r → takes_values r ≡ false
      → walked c [] (standing p h idle) (option_word n) ≡ standing p (reacted c r [] h) idle
  unfolding walked
  flag_walked dashes long found takes = rw (dashes, long, found, takes) refl

-- where a walk stands, if that is known
abbrev IsAt : Option ℕ → ℕ → Type 0
IsAt (Some k) p = p ≡ k
IsAt None p = ⊤

-- what clap knows of an argument
record Known (c : List Rule) (k : Option ℕ) (f : Form) (n : Text) : Type 0 where
  by_id : arg_by_id c n ≡ Some (rule_at k f n)
  by_word : reached c k f n ≡ Some (rule_at k f n)
  long : long_of (option_word n) ≡ Some (n, None)
  dashes : bytes_eq (option_word n) (codes "--") ≡ false
  same : bytes_eq n n ≡ true

-- where a walk comes by the words of an argument, and what is held there
record Stepped (c : List Rule) (k : Option ℕ) (p : ℕ) (h : Held) (f : Form) (n : Text) (v : Value) (words : List Text) : Type 0 where
  after : Held
  place : ℕ
  walk : fold (walked c []) (standing p h idle) words ≡ standing place after idle
  at : IsAt (next_place k f) place
  held : IsHeld k f n v (row_at n (rows_in c after))
  others : (m : Text) → bytes_eq n m ≡ false → row_at m (rows_in c after) ≡ row_at m (rows_in c h)

module _ (c : List Rule) (k : Option ℕ) (p : ℕ) (h : Held) (n : Text) (none : row_at n (rows_in c h) ≡ None) where
  -- no word, and no row
  left_out : (f : Form) (v : Value) (words : List Text) → words ≡ [] → IsAt (next_place k f) p → IsHeld k f n v None → Stepped c k p h f n v words
  left_out f v words empty at is = record {
    after = h;
    place = p;
    walk = rw empty refl;
    at = at;
    held = rw none is;
    others = λ m other. refl;
  }

  -- a row at the end
  put_in : (f : Form) (v : Value) (words : List Text) (vs : List Text) (after : Held) (place : ℕ) → bytes_eq n n ≡ true
      → fold (walked c []) (standing p h idle) words ≡ standing place after idle → IsAt (next_place k f) place
      → rows_in c after ≡ rows_in c h ++ row_of k f n vs ∷ [] → IsHeld k f n v (Some (row_of k f n vs)) → Stepped c k p h f n v words
  put_in f v words vs after place same walk at rows is = record {
    after = after;
    place = place;
    walk = walk;
    at = at;
    held = subst (λ o. IsHeld k f n v o) (sym (ap (row_at n) rows ∙ row_new n (rows_in c h) (row_of k f n vs) none same)) is;
    others = λ m other. ap (row_at m) rows ∙ row_other m (rows_in c h) (row_of k f n vs) other;
  }

  -- the rows after a value
  rows_valued : (f : Form) (v : Text) → arg_by_id c n ≡ Some (rule_at k f n)
      → with_values n (reading_by (rule_at k f n)) CommandLine (v ∷ []) (without n (rows_in c h)) ≡ rows_in c h ++ row_of k f n (v ∷ []) ∷ []
  rows_valued f v found = row_added n (reading_by (rule_at k f n)) CommandLine (v ∷ []) (rows_in c h) none

  option_stepped : (f : Form) (v : Text) → Known c k f n → IsValue v → arg_by_long c n ≡ Some (rule_at k f n) → takes_values (rule_at k f n) ≡ true
      → (rule_at k f n).id ≡ n → most_values (rule_at k f n) ≡ 1
      → fold (walked c []) (standing p h idle) (option_word n ∷ v ∷ []) ≡ standing p (valued c h n v) idle
  option_stepped f v known is found takes id most =
      let first = option_walked c p h n (rule_at k f n) known.dashes known.long found takes in
      let named : walked c [] (standing p h idle) (option_word n) ≡ standing p (record (settled c h) { pending = Some (n, []) }) (option n) = rw id at first in
      ap (λ w. walked c [] w v) named
      ∙ (value_walked c p n v (rule_at k f n) (record (settled c h) { pending = Some (n, []) }) is known.by_id
      ∙ rw (id, known.same, most) refl)

  -- an option with a value
  option_put : (f : Form) (v : Value) (words : List Text) (t : Text) → Known c k f n → IsValue t → words ≡ option_word n ∷ t ∷ [] → IsAt (next_place k f) p
      → arg_by_long c n ≡ Some (rule_at k f n) → takes_values (rule_at k f n) ≡ true → (rule_at k f n).id ≡ n → most_values (rule_at k f n) ≡ 1
      → rows_in c (valued c h n t) ≡ rows_in c h ++ row_of k f n (t ∷ []) ∷ [] → IsHeld k f n v (Some (row_of k f n (t ∷ []))) → Stepped c k p h f n v words
  option_put f v words t known is written at found takes id most rows held =
      put_in f v words (t ∷ []) (valued c h n t) p known.same
      (ap (λ ws. fold (walked c []) (standing p h idle) ws) written ∙ option_stepped f t known is found takes id most) at rows held

  -- a word in its place
  place_put : (f : Form) (v : Value) (words : List Text) (t : Text) → Known c k f n → IsValue t → words ≡ t ∷ []
      → arg_by_index c p ≡ Some (rule_at k f n) → to_positional c (Some (rule_at k f n)) t (standing p h idle) h ≡ standing (min (p + 1) usize_max) (valued c h n t) idle
      → IsAt (next_place k f) (min (p + 1) usize_max)
      → rows_in c (valued c h n t) ≡ rows_in c h ++ row_of k f n (t ∷ []) ∷ [] → IsHeld k f n v (Some (row_of k f n (t ∷ []))) → Stepped c k p h f n v words
  place_put f v words t known is written found put at rows held =
      put_in f v words (t ∷ []) (valued c h n t) (min (p + 1) usize_max) known.same
      (ap (λ ws. fold (walked c []) (standing p h idle) ws) written ∙ (place_walked c p t (rule_at k f n) h is found ∙ put)) at rows held

  rows_by : (f : Form) (t : Text) → Known c k f n
      → used (rule_at k f n) (t ∷ []) (rows_in c h) ≡ rows_in c h ++ row_of k f n (t ∷ []) ∷ []
      → rows_in c (valued c h n t) ≡ rows_in c h ++ row_of k f n (t ∷ []) ∷ []
  rows_by f t known rows = rw known.by_id rows

-- where the next word in a place goes, if that is known
placed_at : (c : List Rule) (k : Option ℕ) (p : ℕ) (r : Rule) → IsAt k p → option_and_then (arg_by_index c) k ≡ Some r → arg_by_index c p ≡ Some r
placed_at c (Some k) p r at found = ap (arg_by_index c) at ∙ found
placed_at c None p r at found = cc

next_known : (k : Option ℕ) (p : ℕ) → IsAt k p → IsAt (next_place k Place) (min (p + 1) usize_max)
next_known (Some k) p at = ap (λ i. min (i + 1) usize_max) at
next_known None p at = tt

stepped : (c : List Rule) (k : Option ℕ) (p : ℕ) (h : Held) (f : Form) (n : Text) (v : Value) (words : List Text) → row_at n (rows_in c h) ≡ None
    → Known c k f n → IsAt k p → IsWritten f n v words → Stepped c k p h f n v words
stepped c k p h Needed n (text (Some t)) words none known at is =
    option_put c k p h n none Needed (text (Some t)) words t known is.0 is.1 at known.by_word refl refl refl (rows_by c k p h n none Needed t known (rows_valued c k p h n none Needed t known.by_id)) refl
stepped c k p h Asked n (text (Some t)) words none known at is =
    option_put c k p h n none Asked (text (Some t)) words t known is.0 is.1 at known.by_word refl refl refl (rows_by c k p h n none Asked t known (rows_valued c k p h n none Asked t known.by_id)) refl
stepped c k p h Optional n (text (Some t)) words none known at is =
    option_put c k p h n none Optional (text (Some t)) words t known is.0 is.1 at known.by_word refl refl refl (rows_by c k p h n none Optional t known (rows_valued c k p h n none Optional t known.by_id)) refl
stepped c k p h Optional n (text None) words none known at is = left_out c k p h n none Optional (text None) words is at refl
stepped c k p h Number n (number (Some m)) words none known at is =
    option_put c k p h n none Number (number (Some m)) words is.0 known is.1 is.3 at known.by_word refl refl refl (rows_by c k p h n none Number is.0 known (rows_valued c k p h n none Number is.0 known.by_id)) (is.0, is.2, refl)
stepped c k p h Number n (number None) words none known at is = left_out c k p h n none Number (number None) words is at refl
stepped c k p h Flag n (flag true) words none known at is =
    put_in c k p h n none Flag (flag true) words (codes "true" ∷ []) (reacted c (rule_at k Flag n) [] h) p known.same
    (ap (λ ws. fold (walked c []) (standing p h idle) ws) is ∙ flag_walked c p h n (rule_at k Flag n) known.dashes known.long known.by_word refl) at
    (row_added n (reading_by (rule_at k Flag n)) CommandLine (codes "true" ∷ []) (rows_in c h) none) refl
stepped c k p h Flag n (flag false) words none known at is = left_out c k p h n none Flag (flag false) words is at refl
stepped c k p h Place n (text (Some t)) words none known at is =
    place_put c k p h n none Place (text (Some t)) words t known is.0 is.1 (placed_at c k p (rule_at k Place n) at known.by_word)
    (rw (and_false (is_pending (rule_at k Place n) h.pending)) refl) (next_known k p at) (rows_by c k p h n none Place t known (rows_valued c k p h n none Place t known.by_id)) refl
stepped c k p h OptionalPlace n (text (Some t)) words none known at is =
    place_put c k p h n none OptionalPlace (text (Some t)) words t known is.0 is.1 (placed_at c k p (rule_at k OptionalPlace n) at known.by_word)
    (rw (and_false (is_pending (rule_at k OptionalPlace n) h.pending)) refl) tt (rows_by c k p h n none OptionalPlace t known (rows_valued c k p h n none OptionalPlace t known.by_id)) refl
stepped c k p h OptionalPlace n (text None) words none known at is = left_out c k p h n none OptionalPlace (text None) words is tt refl
stepped c k p h f n v words none known at is = absurd is

-- ---- the walk over the words of all of them

abbrev names_given : List Given → List Argument
names_given = map (λ g. g.0)

-- no argument has a row
abbrev AreFree : List Given → List Row → Type 0
AreFree [] rows = ⊤
AreFree (g ∷ gs) rows = (row_at (argument_name g.0) rows ≡ None) × AreFree gs rows

free_at_first : (gs : List Given) → AreFree gs []
free_at_first [] = tt
free_at_first (g ∷ gs) = (refl, free_at_first gs)

-- a row of another name leaves them so
free_after : (n : Text) (gs : List Given) (old new : List Row) → ((m : Text) → bytes_eq n m ≡ false → row_at m new ≡ row_at m old)
    → list_all (λ a. not (bytes_eq n (argument_name a))) (names_given gs) ≡ true → AreFree gs old → AreFree gs new
free_after n [] old new others apart free = tt
free_after n (g ∷ gs) old new others apart free =
    let each = both _ _ apart in
    (others (argument_name g.0) (is_false _ each.0) ∙ free.0, free_after n gs old new others each.1 free.1)

-- where a walk comes by the words of arguments, and what is held there
record Walked (c : List Rule) (p : ℕ) (h : Held) (gs : List Given) (words : List Text) : Type 0 where
  after : Held
  place : ℕ
  walk : fold (walked c []) (standing p h idle) words ≡ standing place after idle
  values : values_in (names_given gs) (ended c (rows_in c after)) ≡ Some gs
  others : (m : Text) → list_all (λ a. not (bytes_eq (argument_name a) m)) (names_given gs) ≡ true → row_at m (rows_in c after) ≡ row_at m (rows_in c h)

-- what is known of the first argument, and that the others have other names
record First (c : List Rule) (k : Option ℕ) (a : Argument) (rest : List Argument) : Type 0 where
  known : Known c k (argument_form a) (argument_name a)
  after : list_all (λ b. not (bytes_eq (argument_name a) (argument_name b))) rest ≡ true
  before : list_all (λ b. not (bytes_eq (argument_name b) (argument_name a))) rest ≡ true
  defaults : list_all (default_passes (is_absent (argument_form a)) (argument_name a)) c ≡ true

first_of_found : (c : List Rule) (k : Option ℕ) (a : Argument) (rest : List Argument) → found_at c k a rest ≡ wanted_at k a → First c k a rest
first_of_found c k a rest found =
    let fine : is_fine c (argument_form a) (argument_name a) rest ≡ true = ap (λ (x : Found). x.3) found in
    let defaults = both _ _ fine in
    let before = both _ _ defaults.0 in
    let after = both _ _ before.0 in
    let dashes = both _ _ after.0 in
    record {
      known = record {
        by_id = ap (λ (x : Found). x.0) found;
        by_word = ap (λ (x : Found). x.1) found;
        long = ap (λ (x : Found). x.2) found;
        dashes = is_false _ dashes.1;
        same = dashes.0;
      };
      after = after.1;
      before = before.1;
      defaults = defaults.1;
    }

head_same : {X : Type 0} (x y : X) (xs ys : List X) → x ∷ xs ≡ y ∷ ys → x ≡ y
head_same x y xs ys e = cc

rest_same : {X : Type 0} (x y : X) (xs ys : List X) → x ∷ xs ≡ y ∷ ys → xs ≡ ys
rest_same x y xs ys e = cc

some_same : {X : Type 0} (x y : X) → Some x ≡ Some y → x ≡ y
some_same x y e = cc

-- after the first argument, where a walk over the others comes
walked_more : (c : List Rule) (k : Option ℕ) (p : ℕ) (h : Held) (g : Given) (gs : List Given) (words here rest : List Text) → words ≡ here ++ rest
    → IsWritten (argument_form g.0) (argument_name g.0) g.1 here → First c k g.0 (names_given gs)
    → (one : Stepped c k p h (argument_form g.0) (argument_name g.0) g.1 here) → Walked c one.place one.after gs rest → Walked c p h (g ∷ gs) words
walked_more c k p h g gs words here rest both_parts written first one more =
    let n = argument_name g.0 in
    let held : IsHeld k (argument_form g.0) n g.1 (row_at n (rows_in c more.after)) =
    subst (λ o. IsHeld k (argument_form g.0) n g.1 o) (sym (more.others n first.before)) one.held in
    record {
      after = more.after;
      place = more.place;
      walk =
          ap (fold (walked c []) (standing p h idle)) both_parts
          ∙ (fold-append (walked c []) (standing p h idle) here rest ∙ (ap (λ w. fold (walked c []) w rest) one.walk ∙ more.walk));
      values = rw (value_ends c k n (rows_in c more.after) (argument_form g.0) g.1 here written held first.defaults, more.values) refl;
      others = λ m apart. let each = both _ _ apart in more.others m each.1 ∙ one.others m (is_false _ each.0);
    }

walked_on : (c : List Rule) (k : Option ℕ) (p : ℕ) (h : Held) (gs : List Given) (words : List Text) → IsAt k p
    → all_found c k (names_given gs) ≡ all_wanted k (names_given gs) → AreFree gs (rows_in c h) → AreWritten gs words → Walked c p h gs words
walked_on c k p h [] words at found free written = record {
  after = h;
  place = p;
  walk = rw written refl;
  values = refl;
  others = λ m apart. refl;
}
walked_on c k p h (g ∷ gs) words at found free written =
    let first = first_of_found c k g.0 (names_given gs) (head_same _ _ _ _ found) in
    let one = stepped c k p h (argument_form g.0) (argument_name g.0) g.1 written.0 free.0 first.known at written.2 in
    let free_rest = free_after (argument_name g.0) gs (rows_in c h) (rows_in c one.after) one.others first.after free.1 in
    walked_more c k p h g gs words written.0 written.1 written.4 written.2 first one
    (walked_on c (next_place k (argument_form g.0)) one.place one.after gs written.1 one.at (rest_same _ _ _ _ found) free_rest written.3)

-- ---- the commands

abbrev AllFound : Command → List Argument → Type 0
AllFound c read = all_found (rules_of c) (Some 1) read ≡ all_wanted (Some 1) read

row_found : (c : Command) → AllFound c (arguments_of c)
row_found command.Apply = refl
row_found c = refl

abbrev with_subject : Text × List Argument → List Argument
with_subject s = argument.Subject ∷ s.1

-- of one of these subjects
subject_found : (xs : List (Text × List Argument)) → map (λ s. all_found (rules_of command.Check) (Some 1) (with_subject s)) xs ≡ map (λ s. all_wanted (Some 1) (with_subject s)) xs
    → (t : Text) (read : List Argument) → option_map with_subject (find (λ s. bytes_eq s.0 t) xs) ≡ Some read → AllFound command.Check read
subject_found [] found t read is = cc
subject_found (s ∷ xs) found t read is = go (bytes_eq s.0 t) refl (subject_found xs (rest_same _ _ _ _ found) t read)
  where
    go : (b : Bool) → bytes_eq s.0 t ≡ b → (option_map with_subject (find (λ s. bytes_eq s.0 t) xs) ≡ Some read → AllFound command.Check read) → AllFound command.Check read
    go true here rest = subst (AllFound command.Check) (some_same _ _ (rw here at is)) (head_same _ _ _ _ found)
    go false there rest = rest (rw there at is)

-- all that a job reads is found
read_found : (c : Command) (t : Option Text) (read : List Argument) → arguments_read c t ≡ Some read → AllFound c read
read_found command.Check None read is = cc
read_found command.Check (Some t) read is = subject_found subjects refl t read is
read_found c t read is = subst (AllFound c) (some_same _ _ is) (row_found c)

subject_first : (o : Option Text) (a : Argument) (rest : List Argument) → arguments_read command.Check o ≡ Some (a ∷ rest) → a ≡ argument.Subject
subject_first None a rest is = cc
subject_first (Some t) a rest is = go (find (λ s. bytes_eq s.0 t) subjects) is
  where
    go : (o : Option (Text × List Argument)) → option_map with_subject o ≡ Some (a ∷ rest) → a ≡ argument.Subject
    go None is = cc
    go (Some s) is = sym (head_same _ _ _ _ (some_same _ _ is))

value_first : (a : Argument) (v : Value) (gs : List Given) (o : Option Value) (more : Option (List Given))
    → option_and_then (λ x. option_map (λ xs. (a, x) ∷ xs) more) o ≡ Some ((a, v) ∷ gs) → o ≡ Some v
value_first a v gs None more is = cc
value_first a v gs (Some x) None is = cc
value_first a v gs (Some x) (Some xs) is = ap (λ (g : Given). Some g.1) (head_same _ _ _ _ (some_same _ _ is))

text_is : (o : Option Text) (v : Value) → option_map (λ t. text (Some t)) o ≡ Some v → o ≡ text_of v
text_is None v is = cc
text_is (Some t) v is = ap (option_and_then text_of) is

-- what a job reads does not change where the subject is read back
read_same : (c : Command) (gs : List Given) (rows : List Row) → arguments_read c (text_of (value_of argument.Subject gs)) ≡ Some (names_given gs)
    → values_in (names_given gs) rows ≡ Some gs → arguments_read c (first_of (argument_name argument.Subject) rows) ≡ Some (names_given gs)
read_same command.Check [] rows read values = cc
read_same command.Check (g ∷ gs) rows read values =
    let first : g.0 ≡ argument.Subject = subject_first (text_of (value_of argument.Subject (g ∷ gs))) g.0 (names_given gs) read in
    let value = value_first g.0 g.1 gs (value_by (argument_form g.0) (argument_name g.0) rows) (values_in (names_given gs) rows) values in
    let here : option_map (λ t. text (Some t)) (first_of (argument_name argument.Subject) rows) ≡ Some g.1 =
    subst (λ a. value_by (argument_form a) (argument_name a) rows ≡ Some g.1) first value in
    let same : value_of argument.Subject (g ∷ gs) ≡ g.1 = subst (λ a. value_of argument.Subject ((a, g.1) ∷ gs) ≡ g.1) (sym first) refl in
    ap (arguments_read command.Check) (text_is _ g.1 here ∙ ap text_of (sym same)) ∙ read
read_same c gs rows read values = read

plain_by : (c : Command) (gs : List Given) (words : List Text) → AreWritten gs words → arguments_read c (text_of (value_of argument.Subject gs)) ≡ Some (names_given gs)
    → go_together c gs ≡ true → job_by c (rows_after (rules_of c) [] words) ≡ Some (c, gs)
plain_by c gs words written read together =
    let on = walked_on (rules_of c) (Some 1) 1 nothing_held gs words refl (read_found c _ (names_given gs) read) (free_at_first gs) written in
    let rows = rows_after (rules_of c) [] words in
    let values : values_in (names_given gs) rows ≡ Some gs = ap (λ (w : Walk). values_in (names_given gs) (finished (rules_of c) w.held)) on.walk ∙ on.values in
    let reads : arguments_read c (first_of (argument_name argument.Subject) rows) ≡ Some (names_given gs) = read_same c gs rows read values in
    ap (λ o. option_and_then (job_with c) (option_and_then (λ r. values_in r rows) o)) reads ∙ (ap (option_and_then (job_with c)) values ∙ rw together refl)

pub plain_read : (words : List Text) (x : JobOf) → IsPlain words x → job_of words ≡ Some x
plain_read words x (inl none) = ap job_of none.0 ∙ (no_words ∙ ap (λ y. Some y) (sym none.1))
plain_read words x (inr is) = ap job_of is.1 ∙ (job_of_command x.0 is.0 ∙ plain_by x.0 x.1 is.0 is.2 is.3 is.4)
