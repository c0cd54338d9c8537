use Rattle.std.proofs.Common.{◌≡◌, subst, sym, string_bytes}
use Rattle.std.proofs.lemmas.Result.{IfOk-weaker}
use Rattle.dns_names.specs.Spelling.{SpellsAbsolute, name_text}
use Rattle.dns_names.proofs.ReadingLaws.{text_spells}
use Rattle.policy_build.proofs.printing.name_text.Goals as goal

pub returns-clause-spells : goal.returns-clause-spells
returns-clause-spells c =
    let name = c.args.name.now in
    IfOk-weaker c.text.result (λ text. string_bytes text ≡ name_text name) (λ text. SpellsAbsolute name (string_bytes text)) (λ text e. subst (SpellsAbsolute name) (sym e) (text_spells name c.labels.ensures.name)) c.text.ensures.canonical
