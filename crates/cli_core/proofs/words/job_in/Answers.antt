use Rattle.std.proofs.Common.{◌≡◌, ◌∙◌, ap, ap₂, List, Option, Some, None, map, option_map, true≢false, is_some}
use Rattle.std.specs.Prelude.{unwrap_or}
use Rattle.clap.specs.Words.{Row, Text, subcommand_rows_of}
use Rattle.cli_core.specs.Words.{job_met}
use Rattle.cli_core.proofs.words.job_in.Goals as goal

abbrev pair : Text → List Row → Text × List Row
pair n rs = (n, rs)

-- a name and rows that are found are the pair that is found
paired : {X : Type 0} (whole : X → Text × List Row) (o : Option X) (n : Text) (rs : List Row)
    → Some n ≡ option_map (λ x. (whole x).0) o → Some rs ≡ option_map (λ p. p.1) (option_map whole o) → Some (pair n rs) ≡ option_map whole o
paired whole None n rs e f = absurd (true≢false (ap is_some e))
paired whole (Some x) n rs e f = ap₂ (λ m ss. Some (pair m ss)) (ap (λ o. unwrap_or o n) e) (ap (λ o. unwrap_or o rs) f)

pub returns-in-Some : goal.returns-in-Some
returns-in-Some c =
    let found = c.in-Some.ensures in
    let both : Some (pair c.in-Some.word.now _) ≡ subcommand_rows_of c.args.matches.now = paired _ _ _ _ found.name found.rows in
    c.job_named.ensures ∙ ap (job_met (map (λ s. s.now) c.args.words.now)) both
