-- Steps of a job, one after the other: words are read, then the input, and then an answer is made of both.
use Rattle.std.proofs.Common.{◌≡◌, ℕ, ◌<◌, ◌≤◌, List, [], length, if◌then◌else◌, Option, Some, None, Result, Ok, Err, Vec, Global, refl, ap, ◌∙◌}
use Rattle.std.proofs.lemmas.Bool.{le-ltb, lt-ltb}
use Rattle.cli_core.specs.declared.refusal.Refusal.{Refusal}
use Rattle.cli_core.specs.declared.refusal.Refusal.TheVariants.{TooLarge}
use Rattle.cli_core.specs.declared.line_fault.LineFault.{LineFault}
use Rattle.cli_core.specs.declared.line_fault.LineFault.TheVariants.{Refused, ReadFailed, NoMemory}
use Rattle.cli_core.specs.Device.{IsAll}
use Rattle.cli_core.specs.LineFaults.{◌>>=◌, limited, Gives, Makes, ReachesInput, GivesOf}

-- ---- the input

-- something is left to read, whatever it is
all_left : (left : Option (List ℕ)) → (input : List ℕ) × IsAll left input
all_left None = ([], tt)
all_left (Some rest) = (rest, refl)

pub limited_all : (left : Option (List ℕ)) (input : List ℕ) → IsAll left input → length input ≤ 4194304 → Makes left limited (Ok input)
limited_all left input all small = (input, all, ap (λ b. if b then Err TooLarge else Ok input) (le-ltb 4194304 (length input) small))

pub limited_more : (left : Option (List ℕ)) → (input : List ℕ) × IsAll left input × (4194304 < length input) → Makes left limited (Err TooLarge)
limited_more left more = (more.0, more.1, ap (λ b. if b then Err TooLarge else Ok more.0) (lt-ltb 4194304 (length more.0) more.2))

pub limited_reached : ReachesInput limited
limited_reached input more = ap (λ b. if b then Err TooLarge else Ok input) (lt-ltb 4194304 (length input) more)

-- ---- two steps

-- what comes after a step that is refused is not made
pub refused_before : {A B : Type 0} (made : Result A Refusal) (next : A → Result B Refusal) (refusal : Refusal) → made ≡ Err refusal → (made >>= next) ≡ Err refusal
refused_before made next refusal e = ap (λ m. m >>= next) e

pub given_before : {A B : Type 0} (made : Result A Refusal) (next : A → Result B Refusal) (a : A) → made ≡ Ok a → (made >>= next) ≡ next a
given_before made next a e = ap (λ m. m >>= next) e

-- the input is reached by what makes something of it, and by what asks for it after words that are not refused
pub reached_before : {A B : Type 0} (make : List ℕ → Result A Refusal) (next : A → Result B Refusal) → ReachesInput make → ReachesInput (λ input. make input >>= next)
reached_before make next reached input more = refused_before (make input) next TooLarge (reached input more)

pub reached_behind : {A B : Type 0} (first : Result A Refusal) (make : A → List ℕ → Result B Refusal) (a : A) → first ≡ Ok a → ReachesInput (make a) → ReachesInput (λ input. first >>= λ b. make b input)
reached_behind first make a is reached input more = given_before first (λ b. make b input) a is ∙ reached input more

-- ---- words, the input, and what is made of them

module _ {A X Y : Type 0} (view : X → Y) (left : Option (List ℕ)) (first : Result A Refusal) (next : A → List ℕ → Result Y Refusal) (fine failed : Type 0) where
  -- the words are refused, and nothing was read
  pub words_refused : {C : Type 0} (seen : C → A) (e : LineFault) → Gives seen (Err e) first → fine → GivesOf view left (λ input. first >>= λ a. limited input >>= next a) (Err e) fine failed
  words_refused seen (Refused refusal) given well =
      let all = all_left left in
      ((all.0, all.1, refused_before first (λ a. limited all.0 >>= next a) refusal given), well)
  words_refused seen NoMemory given well = well
  words_refused seen ReadFailed given well = absurd given

  -- the input is refused, or not read
  pub input_refused : (a : A) (e : LineFault) → first ≡ Ok a → GivesOf (λ (input : Vec ℕ Global). input.items) left limited (Err e) fine failed → GivesOf view left (λ input. first >>= λ a. limited input >>= next a) (Err e) fine failed
  input_refused a (Refused refusal) is read =
      let input = read.0.0 in
      ((input, read.0.1, given_before first (λ b. limited input >>= next b) a is ∙ refused_before (limited input) (next a) refusal read.0.2), read.1)
  input_refused a NoMemory is read = read
  input_refused a ReadFailed is read =
      (read.0, reached_behind first (λ b input. limited input >>= next b) a is (reached_before limited (next a) read.1))

  -- both are there
  input_given : (a : A) (text : List ℕ) (made : Result Y Refusal) → first ≡ Ok a → Makes left limited (Ok text) → next a text ≡ made → Makes left (λ input. first >>= λ a. limited input >>= next a) made
  input_given a text made is read e =
      let input = read.0 in
      (input, read.1, given_before first (λ b. limited input >>= next b) a is ∙ (given_before (limited input) (next a) text read.2 ∙ e))

  pub made_of : (a : A) (text : List ℕ) (result : Result X LineFault) → first ≡ Ok a → Makes left limited (Ok text) → fine → Gives view result (next a text) → GivesOf view left (λ input. first >>= λ a. limited input >>= next a) result fine failed
  made_of a text (Ok x) is read well e = (input_given a text (Ok (view x)) is read e, well)
  made_of a text (Err (Refused refusal)) is read well e = (input_given a text (Err refusal) is read e, well)
  made_of a text (Err NoMemory) is read well e = well
  made_of a text (Err ReadFailed) is read well e = absurd e
