-- What a job writes, where it is known which text its steps made.
use Rattle.std.proofs.Common.{◌≡◌, ℕ, ◌<◌, List, Option, Result, Ok, Err, inl, inr, refl, sym, subst}
use Rattle.std.specs.Io.KnownBytes.{Appends}
use Rattle.cli_core.specs.declared.refusal.Refusal.{Refusal}
use Rattle.cli_core.specs.declared.line_fault.LineFault.{LineFault}
use Rattle.cli_core.specs.declared.line_fault.LineFault.TheVariants.{Refused, ReadFailed, NoMemory}
use Rattle.cli_core.specs.declared.line_fault.JobFault.{JobFault}
use Rattle.cli_core.specs.declared.line_fault.JobFault.TheVariants.{Reported, WriteFailed}
use Rattle.cli_core.specs.Device.{AppendsFront}
use Rattle.cli_core.specs.LineFaults.{GivesOf}
use Rattle.cli_core.specs.Refusals.{refused_line}
use Rattle.cli_core.specs.Replies.{line_of, MayWrite, IsRefusalWritten, IsAnswerWritten}
use Rattle.cli_updates.specs.Texts.{GivesText, Told}

module _ {Y : Type 0} (Tells : Y → List ℕ → Type 0) (read : List ℕ → Result Y Refusal) (left : Option (List ℕ)) (fine failed : Type 0) where
  -- what is refused or not read has no text
  pub none_told : {V X : Type 0} (seen : V → Y) (view : X → List ℕ) (fault : LineFault) → GivesOf seen left read (Err fault) fine failed → GivesText view Tells read left (Err fault) fine failed
  none_told seen view (Refused refusal) given = given
  none_told seen view NoMemory given = given
  none_told seen view ReadFailed given = given

  -- a text tells what was read
  pub text_told : {V X : Type 0} (seen : V → Y) (view : X → List ℕ) (made : V) (x : X) → GivesOf seen left read (Ok made) fine failed → Tells (seen made) (view x) → GivesText view Tells read left (Ok x) fine failed
  text_told seen view made x given tells = ((seen made, given.0, tells), given.1)

  module _ (old new : Option (List ℕ)) (writes writes_after : ℕ) where
    own_line : {X : Type 0} (view : X → List ℕ) (fault : LineFault) → GivesText view Tells read left (Err fault) fine failed → Appends old new (line_of fault) → writes_after ≡ writes → Told Tells read left old new (Err (Reported fault)) fine failed writes writes_after
    own_line view (Refused refusal) given line well = (given.0, line, given.1, well)
    own_line view ReadFailed given line well = (line, given.0, given.1, well)
    own_line view NoMemory given line well = (line, given, well)

    own_front : {X : Type 0} (view : X → List ℕ) (fault : LineFault) → GivesText view Tells read left (Err fault) fine failed → AppendsFront old new (line_of fault) → writes < writes_after → Told Tells read left old new (Err WriteFailed) fine failed writes writes_after
    own_front view (Refused refusal) given front broke = ((refused_line refusal, inr (inl ((refusal, given.0, refl), given.1)), front), broke)
    own_front view ReadFailed given front broke = ((line_of ReadFailed, inr (inr (inl (refl, given.0, given.1))), front), broke)
    own_front view NoMemory given front broke = ((line_of NoMemory, inr (inr (inr (refl, given))), front), broke)

    -- which fault was told in the place of another
    told_as : {X : Type 0} (view : X → List ℕ) (fault line : LineFault) → MayWrite fault line → GivesText view Tells read left (Err fault) fine failed → GivesText view Tells read left (Err line) fine failed
    told_as {X} view (Refused refusal) line (inl same) given = subst (λ l. GivesText {X = X} view Tells read left (Err l) fine failed) (sym same) given
    told_as {X} view (Refused refusal) line (inr short) given = subst (λ l. GivesText {X = X} view Tells read left (Err l) fine failed) (sym short) given.1
    told_as {X} view ReadFailed line same given = subst (λ l. GivesText {X = X} view Tells read left (Err l) fine failed) (sym same) given
    told_as {X} view NoMemory line same given = subst (λ l. GivesText {X = X} view Tells read left (Err l) fine failed) (sym same) given

    told_refused : {X : Type 0} (view : X → List ℕ) (fault : LineFault) (result : Result (Unit {0}) JobFault) → GivesText view Tells read left (Err fault) fine failed → IsRefusalWritten old new fault result writes writes_after → Told Tells read left old new result fine failed writes writes_after
    told_refused view fault (Ok done) given wrote = absurd wrote
    told_refused view fault (Err (Reported line)) given wrote = own_line view line (told_as view fault line wrote.0 given) wrote.1 wrote.2
    told_refused view fault (Err WriteFailed) given wrote = own_front view wrote.0.0 (told_as view fault wrote.0.0 wrote.0.1 given) wrote.0.2 wrote.1

    -- the text that was made, or the line of the fault, was written
    pub told_written : {X : Type 0} (view : X → List ℕ) (made : Result X LineFault) (result : Result (Unit {0}) JobFault) → GivesText view Tells read left made fine failed → IsAnswerWritten view old new made result writes writes_after → Told Tells read left old new result fine failed writes writes_after
    told_written view (Ok x) (Ok done) given wrote = ((view x, given.0, wrote.0), given.1, wrote.1)
    told_written view (Ok x) (Err (Reported line)) given wrote = absurd wrote
    told_written view (Ok x) (Err WriteFailed) given wrote = ((view x, inl given, wrote.0), wrote.1)
    told_written view (Err fault) result given wrote = told_refused view fault result given wrote

  -- what was told after a writer that stands as another did
  pub told_behind : (before old new : Option (List ℕ)) (result done : Result (Unit {0}) JobFault) (first writes writes_after : ℕ) → old ≡ before → writes ≡ first → result ≡ done
      → Told Tells read left old new result fine failed writes writes_after → Told Tells read left before new done fine failed first writes_after
  told_behind before old new result done first writes writes_after same count is told =
      subst (λ o. Told Tells read left o new done fine failed first writes_after) same
      (subst (λ n. Told Tells read left old new done fine failed n writes_after) count
      (subst (λ r. Told Tells read left old new r fine failed writes writes_after) is told))
