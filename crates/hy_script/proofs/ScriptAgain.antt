-- What a script spells is read as that script.
use Rattle.std.proofs.Common.{arith, zero, suc, eqb-true, ◌≡◌, ℕ, ◌+◌, ◌*◌, ◌<◌, ◌≤◌, ◌^◌, ◌==◌, Bool, true, false, cond, if◌then◌else◌, List, [], ◌∷◌, ◌++◌, length, refl, sym, ap, subst, ◌∙◌, append_assoc, append-nil, length-append}
use Rattle.std.specs.Prelude.{map, flat_map, is_some, Option, Some, None, IfSome, Ok, All, codes, decimal}
use Rattle.std.specs.List.{AllByRecursion, join_with_byte, list_all}
use Rattle.std.proofs.lemmas.Bool.{and_parts}
use Rattle.std.proofs.lemmas.Bool.Decides.{nat_tests}
use Rattle.std.proofs.lemmas.Grind.{flat_map-append}
use Rattle.std.proofs.lemmas.List.{map-append}
use Rattle.std.proofs.lemmas.List.Elements.{All-head, All-tail}
use Rattle.std.proofs.lemmas.List.Sums.{sum_by-append, sum_by-cons}
use Rattle.hy_base.specs.declared.layout.Shape.{Shape}
use Rattle.hy_base.specs.declared.record.Isolation.{Isolation}
use Rattle.hy_base.specs.declared.record.Isolation.TheVariants.{Serializable, Snapshot}
use Rattle.hy_base.specs.declared.workload.Command.{Command}
use Rattle.hy_base.specs.declared.workload.Command.TheVariants.{Get, Put, Del, Add, Scan, Row, Unrow, Cell, Find}
use Rattle.hy_base.specs.declared.workload.Client.{Client}
use Rattle.hy_base.specs.declared.workload.Program.{Program}
use Rattle.hy_base.specs.Entry.{is_told}
use Rattle.hy_base.specs.declared.workload.Mode.{Mode}
use Rattle.hy_base.specs.Script.{Workload, AreTold, AskForGroups, ClientFitsTables, FitsTables, IsAsOf, IsClient, IsCommand, IsProgram, IsReading, client_count, command_count, counts_as, home_of, mode_of}
use Rattle.hy_base.specs.Shape.{IsGoodShape, IsWithin, largest_cap}
use Rattle.hy_base.specs.Spelling.{Text}
use Rattle.hy_base.specs.Limits.{IsServerNumber, most_boards, most_clients_of_server, most_commands, most_programs, most_servers, most_tables}
use Rattle.hy_script.specs.Grammar.{Place, AtStart, Shaped, Listing, Programming, change_last, gains_program, last_program_count, with_program, gains_command, begun}
use Rattle.hy_script.specs.ScriptLaws.{ClientFits, FitsFields, IsScriptSpellable, ProgramFits, ReadsItsSpelling}
use Rattle.hy_script.specs.Lines.{lines_of, numbered_lines, words_of}
use Rattle.hy_script.specs.LineParts.{IsMode, after_listing, after_program_line, leading}
use Rattle.hy_script.specs.declared.script.ProgramLine.TheVariants.{End}
use Rattle.hy_script.specs.ScriptReading.{place_after, place_after_all}
use Rattle.hy_script.specs.ScriptFields.{listing_line, program_line, servers_line, shape_line}
use Rattle.hy_script.specs.ScriptSpelling.{asked_fields, begin_words, client_lines, command_words, horizon_fields, servers_words, spelled_shape, program_lines, script_lines, script_text, tables_lines, text_of_lines}
use Rattle.hy_script.proofs.Drafts.{change_last_is, last_program_count_is, script_with, counted_at}
use Rattle.hy_script.proofs.LinesAgain.{begin_again, client_again, command_again, servers_again, shape_again, tables_again}
use Rattle.hy_script.proofs.LinesSpelled.{IsSpeech, is_visible, lines_first, numbered_first, visible_decimal, visible_value, words_spelled}
use Rattle.hy_script.proofs.ProgramLines.{listing_leads, program_leads}
use Rattle.hy_script.proofs.ReadLemmas.{whole, then_all}
use Rattle.hy_script.proofs.ScriptLines.{listing_of, servers_leads}
use Rattle.hy_script.proofs.ShapeLines.{shape_leads}

-- lines of these words are cut as they stand, and lead from a place to another, whatever stands before and behind them
pub record Walks (sim : Bool) (place : Place) (lines : List (List Text)) (last : Place) : Type 0 where
  pub walk : (number : ℕ) (rest : Text) → place_after_all sim place (numbered_lines number (text_of_lines lines ++ rest)) ≡ place_after_all sim last (numbered_lines (number + length lines) rest)
  pub cut : (rest : Text) → lines_of (text_of_lines lines ++ rest) ≡ map (join_with_byte 32) lines ++ lines_of rest

stays : (sim : Bool) (place : Place) → Walks sim place [] place
stays sim place = record {
  walk = λ number rest. let same : number ≡ number + 0 = omega arith in ap (λ n. place_after_all sim place (numbered_lines n rest)) same;
  cut = λ rest. refl;
}

joined_texts : (xs ys : List (List Text)) (rest : Text) → text_of_lines (xs ++ ys) ++ rest ≡ text_of_lines xs ++ (text_of_lines ys ++ rest)
joined_texts xs ys rest = ap (λ t. t ++ rest) (flat_map-append _ xs ys) ∙ append_assoc (text_of_lines xs) (text_of_lines ys) rest

then_walks : (sim : Bool) (place next last : Place) (xs ys : List (List Text)) → Walks sim place xs next → Walks sim next ys last → Walks sim place (xs ++ ys) last
then_walks sim place next last xs ys first second = record {
  walk = λ number rest.
      let texts = joined_texts xs ys rest in
      let counts : number + length xs + length ys ≡ number + length (xs ++ ys) = omega (arith, length-append xs ys) in
      ap (λ t. place_after_all sim place (numbered_lines number t)) texts ∙ first.walk number (text_of_lines ys ++ rest) ∙ second.walk (number + length xs) rest
      ∙ ap (λ n. place_after_all sim last (numbered_lines n rest)) counts;
  cut = λ rest.
      ap lines_of (joined_texts xs ys rest) ∙ first.cut (text_of_lines ys ++ rest) ∙ ap (λ l. map (join_with_byte 32) xs ++ l) (second.cut rest)
      ∙ sym (append_assoc (map (join_with_byte 32) xs) (map (join_with_byte 32) ys) (lines_of rest)) ∙ ap (λ l. l ++ lines_of rest) (sym (map-append (join_with_byte 32) xs ys));
}

pub one_line : (sim : Bool) (place last : Place) (words : List Text) → IsSpeech words → ((number : ℕ) (line : Text) → words_of line ≡ words → place_after sim place (number, line) ≡ Ok last) → Walks sim place (words ∷ []) last
one_line sim place last words speech leads = record {
  walk = λ number rest.
      ap (place_after_all sim place) (numbered_first number words [] rest speech)
      ∙ ap (then_all sim number (numbered_lines (number + 1) rest)) (leads number (join_with_byte 32 words) (words_spelled words speech));
  cut = λ rest. lines_first words [] rest speech;
}

-- what the lines of a place lead to, by their words

visible_horizon : (horizon : Option ℕ) (low : ℕ) → IfSome horizon (IsWithin low largest_cap) → AllByRecursion (λ word. is_visible word ≡ true) (horizon_fields horizon)
visible_horizon None low within = tt
visible_horizon (Some h) low within = (visible_decimal h (omega (arith, within.at_most)), tt)

visible_version : (t : Bool) (version : ℕ) (rest : List Text) → version < 2 ^ 64 → AllByRecursion (λ word. is_visible word ≡ true) rest
    → AllByRecursion (λ word. is_visible word ≡ true) (if t then [] else decimal version ∷ rest)
visible_version true version rest small visible = tt
visible_version false version rest small visible = (visible_decimal version small, visible)

shape_walks : (sim : Bool) (shape : Shape) → IsGoodShape shape → Walks sim AtStart (spelled_shape shape ∷ []) (Shaped shape)
shape_walks sim shape good =
    one_line sim AtStart (Shaped shape) (spelled_shape shape)
    (record {
      visible = (
        refl,
        (
          visible_decimal shape.group (omega (arith, good.group.at_most)),
          (
            visible_decimal shape.window (omega (arith, good.window.at_most)),
            (
              visible_decimal shape.cap (omega (arith, good.cap.at_most)),
              visible_version (shape.version == 1) shape.version (horizon_fields shape.horizon) (omega (arith, good.version.at_most))
                  (visible_horizon shape.horizon (shape.group * shape.window) good.horizon),
            ),
          ),
        ),
      );
      says_some = refl;
    })
    (λ number line e. sym (shape_leads sim number (words_of line)) ∙ ap (leading Shaped) (ap shape_line e ∙ shape_again shape good))

servers_walk : (sim : Bool) (shape : Shape) (servers keeps : ℕ) → IsServerNumber servers → IsWithin 1 most_boards keeps
    → Walks sim (Shaped shape) (servers_words servers keeps ∷ []) (listing_of shape (record { servers = servers; keeps = keeps }))
servers_walk sim shape servers keeps within kept =
    one_line sim (Shaped shape) (listing_of shape (record { servers = servers; keeps = keeps })) _
    (record { visible = (refl, (visible_decimal servers (omega (arith, within.at_most)), visible_version (keeps == 1) keeps [] (omega (arith, kept.at_most)) tt)); says_some = refl })
    (λ number line e. sym (servers_leads sim shape number (words_of line)) ∙ ap (leading (listing_of shape)) (ap servers_line e ∙ servers_again servers keeps within kept))

-- a script without clients
abbrev without_clients : Workload → ℕ → Workload
without_clients script tables = record { shape = script.shape; servers = script.servers; keeps = script.keeps; tables = tables; clients = [] }

at_least_one : (n : ℕ) → (n == 0) ≡ false → 1 ≤ n
at_least_one zero e = cc
at_least_one (suc n) e = omega arith

tables_walk : (sim : Bool) (script : Workload) (tables : ℕ) → tables ≤ most_tables → Walks sim (Listing (without_clients script 0)) (tables_lines tables) (Listing (without_clients script tables))
tables_walk sim script tables few = by (tables == 0) refl where
  by : (t : Bool) → (tables == 0) ≡ t → Walks sim (Listing (without_clients script 0)) (if t then [] else (codes "tables" ∷ decimal tables ∷ []) ∷ []) (Listing (without_clients script tables))
  by true e = subst (λ n. Walks sim (Listing (without_clients script 0)) [] (Listing (without_clients script n))) (sym (eqb-true tables 0 e)) (stays sim (Listing (without_clients script 0)))
  by false e =
      let place = without_clients script 0 in
      one_line sim (Listing place) (Listing (without_clients script tables)) (codes "tables" ∷ decimal tables ∷ [])
      (record { visible = (refl, (visible_decimal tables (omega (arith, few)), tt)); says_some = refl })
      (λ number line e2. sym (listing_leads sim number place (words_of line))
      ∙ ap (leading (after_listing place number)) (ap (listing_line sim place) e2 ∙ tables_again sim place tables refl (record { at_least = at_least_one tables e; at_most = few })))

abbrev without_programs : ℕ → Client
without_programs server = record { server = server; programs = [] }

client_walks : (sim : Bool) (script : Workload) (front : List Client) (server : ℕ) → script.servers ≤ most_servers → IsWithin 1 script.servers server → client_count front server < most_clients_of_server
    → Walks sim (Listing (script_with script front)) ((codes "client" ∷ decimal server ∷ []) ∷ []) (Listing (script_with script (front ++ without_programs server ∷ [])))
client_walks sim script front server few within room =
    one_line sim (Listing (script_with script front)) (Listing (script_with script (front ++ without_programs server ∷ []))) _
    (record { visible = (refl, (visible_decimal server (omega (arith, few, within.at_most)), tt)); says_some = refl })
    (λ number line e. sym (listing_leads sim number (script_with script front) (words_of line))
    ∙ ap (leading (after_listing (script_with script front) number)) (ap (listing_line sim (script_with script front)) e ∙ client_again sim (script_with script front) server few within room))

visible_asked : (shape : Shape) → IsGoodShape shape → (isolation : Isolation) (as_of : Option ℕ) → IsAsOf shape as_of → AllByRecursion (λ word. is_visible word ≡ true) (asked_fields isolation as_of)
visible_asked shape good Serializable None asks = tt
visible_asked shape good Snapshot None asks = (refl, tt)
visible_asked shape good isolation (Some pos) asks = (refl, (visible_decimal pos (omega (arith, asks.1, good.cap.at_most)), tt))

begin_walks : (sim : Bool) (script : Workload) (mode : Mode) → IsGoodShape script.shape → 0 < length script.clients → last_program_count script.clients < most_programs → is_told script.shape.version mode.isolation ≡ true → IsMode script.shape mode
    → Walks sim (Listing script) (begin_words mode ∷ []) (Programming script (begun mode))
begin_walks sim script mode good some room told asks =
    one_line sim (Listing script) (Programming script (begun mode)) _ (record { visible = (refl, visible_asked script.shape good mode.isolation mode.as_of asks.0); says_some = refl })
    (λ number line e. sym (listing_leads sim number script (words_of line)) ∙ ap (leading (after_listing script number)) (ap (listing_line sim script) e ∙ begin_again sim script mode good some room told asks))

end_again : (tables : ℕ) (reads : Bool) (count : ℕ) → program_line tables reads count (codes "end" ∷ []) ≡ Ok End
end_again tables reads count = refl

end_walks : (sim : Bool) (script : Workload) (program : Program) → Walks sim (Programming script program) ((codes "end" ∷ []) ∷ []) (Listing (with_program program script))
end_walks sim script program =
    one_line sim (Programming script program) (Listing (with_program program script)) _ (record { visible = (refl, tt); says_some = refl })
    (λ number line e. sym (program_leads sim number script program (words_of line)) ∙ ap (leading (after_program_line script program)) (ap (program_line script.tables (is_some program.as_of) (command_count program.commands)) e ∙ end_again script.tables (is_some program.as_of) (command_count program.commands)))

-- commands, programs and clients

command_speech : (tables : ℕ) (command : Command) → tables ≤ most_tables → FitsFields command → IsCommand command → FitsTables tables command → IsSpeech (command_words command)
command_speech tables (Get key) few fits lawful there = record { visible = (refl, (visible_decimal key fits, tt)); says_some = refl }
command_speech tables (Put key value) few fits lawful there = record { visible = (refl, (visible_decimal key fits, (visible_value value lawful, tt))); says_some = refl }
command_speech tables (Del key) few fits lawful there = record { visible = (refl, (visible_decimal key fits, tt)); says_some = refl }
command_speech tables (Add key n) few fits lawful there = record { visible = (refl, (visible_decimal key fits.0, (visible_decimal n fits.1, tt))); says_some = refl }
command_speech tables (Scan lo hi n) few fits lawful there = record {
  visible = (refl, (visible_decimal lo (omega (arith, fits, lawful.0)), (visible_decimal hi fits, (visible_decimal n (omega (arith, lawful.1.at_most)), tt))));
  says_some = refl;
}
command_speech tables (Row table row attribute text) few fits lawful there = record {
  visible = (
    refl,
    (
      visible_decimal table (omega (arith, few, there.at_most)),
      (visible_decimal row (omega (arith, lawful.0)), (visible_decimal attribute (omega (arith, lawful.1)), (visible_value text lawful.2.value, tt))),
    ),
  );
  says_some = refl;
}
command_speech tables (Unrow table row) few fits lawful there = record {
  visible = (refl, (visible_decimal table (omega (arith, few, there.at_most)), (visible_decimal row (omega (arith, lawful)), tt)));
  says_some = refl;
}
command_speech tables (Cell table row) few fits lawful there = record {
  visible = (refl, (visible_decimal table (omega (arith, few, there.at_most)), (visible_decimal row (omega (arith, lawful)), tt)));
  says_some = refl;
}
command_speech tables (Find table attribute n) few fits lawful there = record {
  visible = (
    refl,
    (visible_decimal table (omega (arith, few, there.at_most)), (visible_decimal attribute (omega (arith, lawful.0)), (visible_decimal n (omega (arith, lawful.1.at_most)), tt))),
  );
  says_some = refl;
}

command_walks : (sim : Bool) (script : Workload) (program : Program) (command : Command) → script.tables ≤ most_tables → FitsFields command → IsCommand command → (is_some program.as_of ≡ true → IsReading command) → FitsTables script.tables command
    → command_count program.commands + counts_as command ≤ most_commands → Walks sim (Programming script program) (command_words command ∷ []) (Programming script (gains_command command program))
command_walks sim script program command few fits lawful may there room =
    let reads = is_some program.as_of in
    let count = command_count program.commands in
    one_line sim (Programming script program) (Programming script (gains_command command program)) (command_words command) (command_speech script.tables command few fits lawful there)
    (λ number line e. sym (program_leads sim number script program (words_of line))
    ∙ ap (leading (after_program_line script program)) (ap (program_line script.tables reads count) e ∙ command_again script.tables reads count command few fits lawful may there room))

-- a program that asks for this, with these commands
abbrev with_commands : Mode → List Command → Program
with_commands mode commands = record { isolation = mode.isolation; as_of = mode.as_of; commands = commands }

commands_walk : (sim : Bool) (script : Workload) (mode : Mode) (before commands : List Command) → script.tables ≤ most_tables → AllByRecursion FitsFields commands → All IsCommand commands → (is_some mode.as_of ≡ true → All IsReading commands)
    → All (FitsTables script.tables) commands → command_count before + command_count commands ≤ most_commands
    → Walks sim (Programming script (with_commands mode before)) (map command_words commands) (Programming script (with_commands mode (before ++ commands)))
commands_walk sim script mode before [] few fits lawful may there room = subst (λ l. Walks sim (Programming script (with_commands mode before)) [] (Programming script (with_commands mode l))) (sym (append-nil before)) (stays sim (Programming script (with_commands mode before)))
commands_walk sim script mode before (command ∷ commands) few fits lawful may there room =
    let Fits : Command → Type 0 = FitsTables script.tables in
    let all : command_count (command ∷ commands) ≡ counts_as command + command_count commands = sum_by-cons counts_as command commands in
    let one : command_count (command ∷ []) ≡ counts_as command = omega (arith, sum_by-cons counts_as command []) in
    let grown : command_count (before ++ command ∷ []) ≡ command_count before + command_count (command ∷ []) = sum_by-append counts_as before (command ∷ []) in
    let more : command_count (before ++ command ∷ []) + command_count commands ≤ most_commands = omega (arith, room, all, one, grown) in
    let now : command_count before + counts_as command ≤ most_commands = omega (arith, room, all) in
    subst (λ l. Walks sim (Programming script (with_commands mode before)) (map command_words (command ∷ commands)) (Programming script (with_commands mode l))) (append_assoc before (command ∷ []) commands)
    (then_walks sim (Programming script (with_commands mode before)) (Programming script (with_commands mode (before ++ command ∷ []))) (Programming script (with_commands mode ((before ++ command ∷ []) ++ commands))) (command_words command ∷ []) (map command_words commands)
    (command_walks sim script (with_commands mode before) command few fits.0 (All-head IsCommand command commands lawful) (λ asks. All-head IsReading command commands (may asks)) (All-head Fits command commands there) now)
    (commands_walk sim script mode (before ++ command ∷ []) commands few fits.1 (All-tail IsCommand command commands lawful) (λ asks. All-tail IsReading command commands (may asks)) (All-tail Fits command commands there) more))

program_walks : (sim : Bool) (script : Workload) (program : Program) → IsGoodShape script.shape → ProgramFits program → IsProgram program → 0 < length script.clients → last_program_count script.clients < most_programs
    → is_told script.shape.version program.isolation ≡ true → IsAsOf script.shape program.as_of → script.tables ≤ most_tables → All (FitsTables script.tables) program.commands
    → Walks sim (Listing script) (program_lines program) (Listing (with_program program script))
program_walks sim script program good fits lawful some room told asks few there =
    let commands = program.commands in
    let mode = mode_of program in
    then_walks sim (Listing script) (Programming script (begun mode)) (Listing (with_program program script)) (begin_words mode ∷ []) (map command_words commands ++ (codes "end" ∷ []) ∷ [])
    (begin_walks sim script mode good some room told (asks, lawful.plain))
    (then_walks sim (Programming script (begun mode)) (Programming script program) (Listing (with_program program script)) (map command_words commands) ((codes "end" ∷ []) ∷ [])
    (commands_walk sim script mode [] commands few fits lawful.commands lawful.reads there (omega (arith, lawful.count))) (end_walks sim script program))

abbrev with_programs : Client → List Program → Client
with_programs c programs = record { server = c.server; programs = programs }

programs_walk : (sim : Bool) (script : Workload) (front : List Client) (server : ℕ) (before programs : List Program) → IsGoodShape script.shape → AllByRecursion ProgramFits programs → All IsProgram programs → AreTold script.shape.version (map mode_of programs)
    → AllByRecursion (λ m. IsAsOf script.shape m.as_of) (map mode_of programs) → script.tables ≤ most_tables → All (λ p. All (FitsTables script.tables) p.commands) programs → length before + length programs ≤ most_programs
    → Walks sim (Listing (script_with script (front ++ record { server = server; programs = before } ∷ []))) (flat_map program_lines programs)
    (Listing (script_with script (front ++ record { server = server; programs = before ++ programs } ∷ [])))
programs_walk sim script front server before [] good fits lawful told asks numbered there few =
    let place = Listing (script_with script (front ++ record { server = server; programs = before } ∷ [])) in
    subst (λ l. Walks sim place [] (Listing (script_with script (front ++ record { server = server; programs = l } ∷ [])))) (sym (append-nil before)) (stays sim place)
programs_walk sim script front server before (program ∷ programs) good fits lawful told asks numbered there few =
    let Fits : Program → Type 0 = λ p. All (FitsTables script.tables) p.commands in
    let parts = and_parts (is_told script.shape.version program.isolation) (list_all (λ m. is_told script.shape.version m.isolation) (map mode_of programs)) told in
    let client : Client = record { server = server; programs = before } in
    let now = script_with script (front ++ client ∷ []) in
    let next = front ++ record { server = server; programs = before ++ program ∷ [] } ∷ [] in
    let more : length (before ++ program ∷ []) + length programs ≤ most_programs = omega (arith, few, length-append before (program ∷ [])) in
    let some : 0 < length (front ++ client ∷ []) = omega (arith, length-append front (client ∷ [])) in
    let room : last_program_count (front ++ client ∷ []) < most_programs = omega (arith, few, last_program_count_is front client) in
    let changed : change_last (gains_program program) (front ++ client ∷ []) ≡ next = change_last_is (gains_program program) front client in
    let last = Listing (script_with script (front ++ record { server = server; programs = before ++ program ∷ programs } ∷ [])) in
    then_walks sim (Listing now) (Listing (script_with script next)) last (program_lines program) (flat_map program_lines programs)
    (subst (λ l. Walks sim (Listing now) (program_lines program) (Listing (script_with script l))) changed
    (program_walks sim now program good fits.0 (All-head IsProgram program programs lawful) some room parts.0 asks.0 numbered (All-head Fits program programs there)))
    (subst (λ l. Walks sim (Listing (script_with script next)) (flat_map program_lines programs) (Listing (script_with script (front ++ record { server = server; programs = l } ∷ []))))
    (append_assoc before (program ∷ []) programs)
    (programs_walk sim script front server (before ++ program ∷ []) programs good fits.1 (All-tail IsProgram program programs lawful) parts.1 asks.1 numbered (All-tail Fits program programs there) more))

whole_client : (sim : Bool) (script : Workload) (front : List Client) (c : Client) → IsGoodShape script.shape → ClientFits c → IsClient script.servers c → AreTold script.shape.version (home_of c).programs
    → AllByRecursion (λ m. IsAsOf script.shape m.as_of) (home_of c).programs → script.tables ≤ most_tables → ClientFitsTables script.tables c → script.servers ≤ most_servers → client_count front c.server < most_clients_of_server
    → Walks sim (Listing (script_with script front)) (client_lines c) (Listing (script_with script (front ++ c ∷ [])))
whole_client sim script front c good fits lawful told asks numbered there few room =
    then_walks sim (Listing (script_with script front)) (Listing (script_with script (front ++ without_programs c.server ∷ []))) (Listing (script_with script (front ++ c ∷ [])))
    ((codes "client" ∷ decimal c.server ∷ []) ∷ []) (flat_map program_lines c.programs)
    (client_walks sim script front c.server few lawful.server room)
    (programs_walk sim script front c.server [] c.programs good fits lawful.programs told asks numbered there (omega (arith, lawful.count)))

itself : (c : Client) → counted_at c.server c ≡ 1
itself c = let same : (c.server == c.server) ≡ true = grind (arith, nat_tests) in ap (λ t. cond t 1 0) same

has_room : (front cs : List Client) (c : Client) → client_count (front ++ c ∷ cs) c.server ≤ most_clients_of_server → client_count front c.server < most_clients_of_server
has_room front cs c few =
    let all : client_count (front ++ c ∷ cs) c.server ≡ client_count front c.server + client_count (c ∷ cs) c.server = sum_by-append (counted_at c.server) front (c ∷ cs) in
    let first : client_count (c ∷ cs) c.server ≡ counted_at c.server c + client_count cs c.server = sum_by-cons (counted_at c.server) c cs in
    omega (arith, few, all, first, itself c)

clients_walk : (sim : Bool) (script : Workload) (front cs : List Client) → IsGoodShape script.shape → AllByRecursion ClientFits cs → All (IsClient script.servers) cs → All (λ c. AreTold script.shape.version (home_of c).programs) cs
    → AskForGroups script.shape (map home_of cs) → script.tables ≤ most_tables → All (ClientFitsTables script.tables) cs → script.servers ≤ most_servers → ((k : ℕ) → client_count (front ++ cs) k ≤ most_clients_of_server)
    → Walks sim (Listing (script_with script front)) (flat_map client_lines cs) (Listing (script_with script (front ++ cs)))
clients_walk sim script front [] good fits lawful told asks numbered there few counts =
    let place = Listing (script_with script front) in
    subst (λ l. Walks sim place [] (Listing (script_with script l))) (sym (append-nil front)) (stays sim place)
clients_walk sim script front (c ∷ cs) good fits lawful told asks numbered there few counts =
    let Fits : Client → Type 0 = ClientFitsTables script.tables in
    let all = append_assoc front (c ∷ []) cs in
    let Told : Client → Type 0 = λ d. AreTold script.shape.version (home_of d).programs in
    then_walks sim (Listing (script_with script front)) (Listing (script_with script (front ++ c ∷ []))) (Listing (script_with script (front ++ c ∷ cs))) (client_lines c) (flat_map client_lines cs)
    (whole_client sim script front c good fits.0 (All-head (IsClient script.servers) c cs lawful) (All-head Told c cs told) asks.0 numbered (All-head Fits c cs there) few (has_room front cs c (counts c.server)))
    (subst (λ l. Walks sim (Listing (script_with script (front ++ c ∷ []))) (flat_map client_lines cs) (Listing (script_with script l))) all
    (clients_walk sim script (front ++ c ∷ []) cs good fits.1 (All-tail (IsClient script.servers) c cs lawful) (All-tail Told c cs told) asks.1 numbered (All-tail Fits c cs there) few (λ k. subst (λ l. client_count l k ≤ most_clients_of_server) (sym all) (counts k))))

pub script_walks : (sim : Bool) (script : Workload) → IsScriptSpellable script → Walks sim AtStart (script_lines script) (Listing script)
script_walks sim script s =
    let shape = script.shape in
    let rest = flat_map client_lines script.clients in
    let listing = listing_of shape (record { servers = script.servers; keeps = script.keeps }) in
    then_walks sim AtStart (Shaped shape) (Listing script) (spelled_shape shape ∷ []) (servers_words script.servers script.keeps ∷ tables_lines script.tables ++ rest)
    (shape_walks sim shape s.lawful.shape)
    (then_walks sim (Shaped shape) listing (Listing script) (servers_words script.servers script.keeps ∷ []) (tables_lines script.tables ++ rest)
    (servers_walk sim shape script.servers script.keeps s.lawful.servers s.lawful.keeps)
    (then_walks sim listing (Listing (script_with script [])) (Listing script) (tables_lines script.tables) rest
    (tables_walk sim script script.tables s.lawful.tables)
    (clients_walk sim script [] script.clients s.lawful.shape s.clients s.lawful.clients s.lawful.isolations s.lawful.positions s.lawful.tables s.lawful.fits_tables s.lawful.servers.at_most s.lawful.client_count)))

pub reads_scripts : ReadsItsSpelling
reads_scripts script sim s short =
    let text = script_text script in
    let walked : place_after_all sim AtStart (numbered_lines 1 text) ≡ Ok (Listing script) =
    ap (λ t. place_after_all sim AtStart (numbered_lines 1 t)) (sym (append-nil text)) ∙ (script_walks sim script s).walk 1 [] in
    whole sim text (Ok (Listing script)) short walked
