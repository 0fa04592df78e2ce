use Rattle.std.proofs.Common.{◌≡◌, true, List, [], ◌∷◌, Some, None, refl, sym, ◌∙◌, ap, inl, inr}
use Rattle.std.specs.Prelude.{◌⊎◌, Option, is_some, option_map}
use Rattle.clap.specs.Kinds.{Kinds}
use Rattle.clap.specs.Words.{fault_of}
use Rattle.hy_base.specs.Spelling.{Text}
use Rattle.hy_cli.specs.CommandLine.{CliCommand, command_named}
use Rattle.hy_cli.specs.Matches.{Asks, choices_found, hyder_app, meant, refuses}
use Rattle.hy_cli.specs.declared.commands.Line.{Line}
use Rattle.hy_cli.proofs.Refusals.{IsTaken, taken_words}
use Rattle.hy_cli.proofs.laws.words_ask_or_are_refused.Goals as goal

asked : (words : List Text) → fault_of hyder_app words ≡ [] → IsTaken words → (line : Line) × Asks words line
asked words e taken = by (command_named taken.name) refl
  where
    by : (found : Option CliCommand) → command_named taken.name ≡ found → (line : Line) × Asks words line
    by None is = let wrong : is_some {T = CliCommand} None ≡ true = ap is_some (sym is) ∙ taken.command in absurd (cc wrong)
    by (Some command) is = (command.line (choices_found taken.rows), (e, ap meant taken.entered ∙ ap (option_map (λ c. c.line (choices_found taken.rows))) is))

pub returns : goal.returns
returns c = λ words. by words (fault_of hyder_app words) refl
  where
    by : (words : List Text) (faults : Kinds) → fault_of hyder_app words ≡ faults → refuses words ⊎ ((line : Line) × Asks words line)
    by words [] e = inr (asked words e (taken_words words e))
    by words (fault ∷ faults) e = inl (λ none. let wrong : fault ∷ faults ≡ [] = sym e ∙ none in absurd (cc wrong))
