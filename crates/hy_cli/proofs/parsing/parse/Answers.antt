use Rattle.std.proofs.Common.{◌≡◌, ◌∙◌, Some, false, List, ap, map, subst}
use Rattle.std.specs.Prelude.{IsErr, IfErr, IfOk, MatchResult, slice_get}
use Rattle.hy_base.specs.Spelling.{Text}
use Rattle.hy_cli.specs.CommandLine.{command_word, line_of, names_command}
use Rattle.hy_cli.specs.Matches.{Asks, refuses}
use Rattle.hy_cli.specs.declared.commands.Line.{Line}
use Rattle.hy_cli.specs.declared.parsing.CliError.TheVariants.{Memory, Usage}
use Rattle.hy_cli.proofs.parsing.parse.Goals as goal

pub returns-clause-obeyed : goal.returns-clause-obeyed
returns-clause-obeyed c =
    let same = ap (map (λ t. t.now)) c.as_slice.ensures.value ∙ c.in_ok-texts.ensures in
    subst (λ (ws : List Text). (l : Line) → line_of ws ≡ Some l → MatchResult c.parse_texts.result (λ r. r ≡ l) (λ e. e ≡ Memory)) same c.parse_texts.ensures.obeyed

pub returns-clause-unknown : goal.returns-clause-unknown
returns-clause-unknown c =
    let same = ap (map (λ t. t.now)) c.as_slice.ensures.value ∙ c.in_ok-texts.ensures in
    subst (λ (ws : List Text). names_command ws ≡ false → IsErr c.parse_texts.result) same c.parse_texts.ensures.unknown

pub returns-clause-refused : goal.returns-clause-refused
returns-clause-refused c =
    let same = ap (map (λ t. t.now)) c.as_slice.ensures.value ∙ c.in_ok-texts.ensures in
    subst (λ (ws : List Text). IfErr c.parse_texts.result (λ e. e ≡ Usage → refuses ws)) same c.parse_texts.ensures.refused

pub returns-clause-meaning : goal.returns-clause-meaning
returns-clause-meaning c =
    let same = ap (map (λ t. t.now)) c.as_slice.ensures.value ∙ c.in_ok-texts.ensures in
    subst (λ (ws : List Text). IfOk c.parse_texts.result (Asks ws)) same c.parse_texts.ensures.meaning

pub returns-clause-word : goal.returns-clause-word
returns-clause-word c =
    let same = ap (map (λ t. t.now)) c.as_slice.ensures.value ∙ c.in_ok-texts.ensures in
    subst (λ (ws : List Text). IfOk c.parse_texts.result (λ line. slice_get ws 1 ≡ Some (command_word line))) same c.parse_texts.ensures.word

pub returns-clause-range : goal.returns-clause-range
returns-clause-range c = c.parse_texts.ensures.range
