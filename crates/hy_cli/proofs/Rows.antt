-- Worked command lines, computed by the definition.
use Rattle.std.proofs.Common.{◌≡◌, true, false, refl, List, [], ◌∷◌, Option, Some, None, codes}
use Rattle.std.specs.Fmt.{digits}
use Rattle.hy_base.specs.Spelling.{Text}
use Rattle.hy_cli.specs.CommandLine.{line_of}
use Rattle.hy_cli.specs.declared.commands.Line.{Line}
use Rattle.hy_cli.specs.declared.commands.Line.TheVariants.{Run, Sim, Tell, Compact, Follow, Load}
use Rattle.hy_cli.specs.declared.commands.Report.TheVariants.{Dump, Verdicts, Stream}

abbrev hyder : List Text → Option Line
hyder words = line_of (codes "hyder" ∷ words)

abbrev threads : Text
threads = codes "--threads"

no_words : line_of [] ≡ None
no_words = refl

no_command : hyder [] ≡ None
no_command = refl

another_word : hyder (codes "frob" ∷ []) ≡ None
another_word = refl

two_threads_for_clients : hyder (codes "run" ∷ []) ≡ Some (Run 2 false false)
two_threads_for_clients = refl

four_threads_for_clients : hyder (codes "run" ∷ threads ∷ codes "4" ∷ []) ≡ Some (Run 4 false false)
unfolding digits
four_threads_for_clients = refl

point_and_save : hyder (codes "run" ∷ codes "--save" ∷ threads ∷ codes "4" ∷ codes "--point" ∷ []) ≡ Some (Run 4 true true)
unfolding digits
point_and_save = refl

save_alone : hyder (codes "run" ∷ codes "--save" ∷ []) ≡ Some (Run 2 false true)
save_alone = refl

saved_twice : hyder (codes "run" ∷ codes "--save" ∷ codes "--save" ∷ []) ≡ None
saved_twice = refl

loads : hyder (codes "load" ∷ codes "--size" ∷ codes "80" ∷ codes "--seed" ∷ codes "7" ∷ []) ≡ Some (Load 7 80 2)
unfolding digits
loads = refl

no_seed : hyder (codes "load" ∷ codes "--size" ∷ codes "80" ∷ []) ≡ None
unfolding digits
no_seed = refl

two_threads : hyder (codes "sim" ∷ []) ≡ Some (Sim 2)
two_threads = refl

sixteen_threads : hyder (codes "sim" ∷ threads ∷ codes "16" ∷ []) ≡ Some (Sim 16)
unfolding digits
sixteen_threads = refl

too_many_threads : hyder (codes "sim" ∷ threads ∷ codes "17" ∷ []) ≡ None
unfolding digits
too_many_threads = refl

no_threads : hyder (codes "sim" ∷ threads ∷ codes "0" ∷ []) ≡ None
unfolding digits
no_threads = refl

leading_zero : hyder (codes "sim" ∷ threads ∷ codes "04" ∷ []) ≡ None
unfolding digits
leading_zero = refl

no_value : hyder (codes "sim" ∷ threads ∷ []) ≡ None
no_value = refl

twice : hyder (codes "sim" ∷ threads ∷ codes "4" ∷ threads ∷ codes "4" ∷ []) ≡ None
unfolding digits
twice = refl

recovers : hyder (codes "recover" ∷ []) ≡ Some (Tell Dump)
recovers = refl

checks : hyder (codes "check" ∷ []) ≡ Some (Tell Verdicts)
checks = refl

compacts : hyder (codes "compact" ∷ []) ≡ Some Compact
compacts = refl

ships : hyder (codes "ship" ∷ []) ≡ Some (Tell Stream)
ships = refl

follows : hyder (codes "follow" ∷ threads ∷ codes "4" ∷ []) ≡ Some (Follow 4)
unfolding digits
follows = refl

follows_on_two : hyder (codes "follow" ∷ []) ≡ Some (Follow 2)
unfolding digits
follows_on_two = refl

not_its_option : hyder (codes "check" ∷ threads ∷ codes "4" ∷ []) ≡ None
unfolding digits
not_its_option = refl
