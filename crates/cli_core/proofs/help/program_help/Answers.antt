use Rattle.std.proofs.Common.{◌≡◌, ◌∙◌, ◌++◌, ◌+◌, ◌<◌, List, ◌∷◌, [], ℕ, ap, sym, append_assoc, take, length, get_or, arith, rules}
use Rattle.std.specs.Prelude.{string_bytes}
use Rattle.std.specs.List.{flat_map}
use Rattle.std.proofs.lemmas.Grind.{flat_map-append}
use Rattle.std.proofs.lemmas.List.{append-nil, take_all, take_more}
use Rattle.cli_core.specs.Commands.{all_commands}
use Rattle.cli_core.specs.Help.{after_commands, before_commands, command_line}
use Rattle.cli_core.specs.declared.commands.Command.{Command}
use Rattle.cli_core.proofs.help.program_help.Goals as goal

-- the lines of one command more
line_more : (cs : List Command) (i : ℕ) (d : Command) (text next : List ℕ) → i < length cs → text ≡ before_commands ++ flat_map command_line (take i cs)
    → next ≡ text ++ command_line (get_or cs i d) → next ≡ before_commands ++ flat_map command_line (take (i + 1) cs)
line_more cs i d text next below so_far more =
    let one = flat_map-append command_line (take i cs) (get_or cs i d ∷ []) ∙ ap (λ l. flat_map command_line (take i cs) ++ l) (append-nil (command_line (get_or cs i d))) in
    more ∙ ap (λ t. t ++ command_line (get_or cs i d)) so_far ∙ append_assoc before_commands (flat_map command_line (take i cs)) (command_line (get_or cs i d))
    ∙ ap (λ l. before_commands ++ l) (sym one ∙ ap (flat_map command_line) (sym (take_more cs i d below)))

pub loop-command-preserved : goal.loop-command-preserved
loop-command-preserved c =
    let at = c.loop-command in
    line_more all_commands at.command-index _ (string_bytes at.text) _ (search (rules, arith)) at.invariant c.in_ok-push_line.ensures

pub returns : goal.returns
returns c =
    let at = c.loop-command in
    let all = at.invariant ∙ ap (λ l. before_commands ++ flat_map command_line l) (take_all at.command-index all_commands (search (rules, arith))) in
    c.in_ok-push_str.ensures.bytes ∙ ap (λ t. t ++ after_commands) all
