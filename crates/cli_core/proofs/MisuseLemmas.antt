-- What is told of words, by the kinds of error that they may give.
use Rattle.std.proofs.Common.{◌≡◌, ◌≢◌, ◌||◌, subst, Bool, true, false, refl, List, [], ◌∷◌, None, inl, inr}
use Rattle.std.specs.List.{list_any}
use Rattle.clap.specs.Words.{App, Text, fault_of}
use Rattle.clap.specs.Kinds.{HasKind, IsAmong, Kinds}
use Rattle.clap.specs.Words.{kind_of}
use Rattle.clap.specs.declared.Error.{Error}
use Rattle.clap.specs.declared.error.ErrorKind.{ErrorKind}
use Rattle.clap.specs.declared.error.ErrorKind.TheVariants as kind
use Rattle.cli_core.specs.Commands.{office}
use Rattle.cli_core.specs.Words.{job_of}
use Rattle.cli_core.specs.Misuse.{IsReportedAs, IsReported, is_help, is_mistake}
use Rattle.cli_core.specs.declared.words.WordsFault.{WordsFault}
use Rattle.cli_core.specs.declared.words.WordsFault.TheVariants as fault

-- a kind that is among the kinds shows in a test of any
among : (p : ErrorKind → Bool) (k : ErrorKind) (ks : Kinds) → IsAmong k ks → p k ≡ true → list_any p ks ≡ true
among p k [] is passes = absurd is
among p k (x ∷ xs) (inl e) passes = rw (← e, passes) refl
among p k (x ∷ xs) (inr is) passes = go (p x) (among p k xs is passes)
  where
    go : (b : Bool) → list_any p xs ≡ true → (b || list_any p xs) ≡ true
    go true rest = refl
    go false rest = rest

by_kind : (words : List Text) (k : ErrorKind) (told : WordsFault) → IsAmong k (fault_of office words) → IsReportedAs words k told → IsReported words told
by_kind words k (fault.Help text) is agrees = (k, is, agrees)
by_kind words k (fault.Misused text) is agrees = inl (among is_mistake k (fault_of office words) is agrees)
by_kind words k fault.NoMemory is agrees = tt

no_memory : (words : List Text) (told : WordsFault) → told ≡ fault.NoMemory → IsReported words told
no_memory words told e = rw e tt

-- what is told of an error of clap's, whose kind is one of the words' or no memory
pub told_of : (words : List Text) (app : App) (e : Error) (told : WordsFault) → app ≡ office → IsReportedAs words (kind_of e) told
    → (kind_of e ≡ kind.OutOfMemory → told ≡ fault.NoMemory) → HasKind (fault_of app words) e → IsReported words told
told_of words app e told is agrees memory (inl out) = no_memory words told (memory out)
told_of words app e told is agrees memory (inr among) = by_kind words (kind_of e) told (subst (λ a. IsAmong (kind_of e) (fault_of a words)) is among) agrees

-- what is told of words that have no mistake in them and name no job
pub nothing_wrong : (words : List Text) (told : WordsFault) → fault_of office words ≡ [] → job_of words ≡ None
    → IsReportedAs words kind.InvalidValue told → IsReported words told
nothing_wrong words (fault.Help text) faultless none agrees = absurd agrees
nothing_wrong words (fault.Misused text) faultless none agrees = inr (faultless, none)
nothing_wrong words fault.NoMemory faultless none agrees = tt

-- a kind that is neither help nor the version is a mistake
pub is_wrong : (k : ErrorKind) → k ≢ kind.DisplayHelp → k ≢ kind.DisplayVersion → is_help k ≡ false
is_wrong kind.DisplayHelp help version = absurd (help refl)
is_wrong kind.DisplayVersion help version = absurd (version refl)
is_wrong _ help version = refl
