-- From what a script was read as, to the words of its lines.
use Rattle.std.proofs.Common.{arith, ◌≡◌, ℕ, ◌==◌, ◌<◌, Bool, true, false, List, [], ◌∷◌, ◌++◌, length, refl, sym, ap, subst, ◌∙◌, append_assoc, append-nil, if◌then◌else◌, nat_lt}
use Rattle.std.specs.Prelude.{All, map, flat_map, is_some, Option, Some, None, Result, Ok, Err, IfOk, codes, decimal, ⊤}
use Rattle.std.specs.List.{AllByRecursion}
use Rattle.std.proofs.lemmas.Bool.{ne_eqb}
use Rattle.std.proofs.lemmas.List.{map_push}
use Rattle.std.proofs.lemmas.List.Elements.{All-push}
use Rattle.hy_base.specs.declared.layout.Shape.{Shape}
use Rattle.hy_base.specs.declared.workload.Command.{Command}
use Rattle.hy_base.specs.declared.workload.Command.TheVariants.{Get, Put, Del, Add, Scan, Row, Unrow, Cell, Find}
use Rattle.hy_base.specs.declared.workload.Client.{Client}
use Rattle.hy_base.specs.declared.workload.Program.{Program}
use Rattle.hy_base.specs.declared.record.Isolation.{Isolation}
use Rattle.hy_base.specs.declared.record.Isolation.TheVariants.{Serializable, Snapshot}
use Rattle.hy_base.specs.Entry.{is_told}
use Rattle.hy_base.specs.Script.{Workload, ClientFitsTables, FitsTables, IsAsOf, IsProgram, IsScript, client_count, command_count, mode_of}
use Rattle.hy_base.specs.Shape.{IsGoodShape, IsWithin}
use Rattle.hy_base.specs.Spelling.{Text}
use Rattle.hy_base.specs.Limits.{most_tables, most_programs, most_clients_of_server}
use Rattle.hy_base.proofs.ListLemmas.{all_push}
use Rattle.hy_script.specs.Grammar.{Place, AtStart, Shaped, Listing, Programming, Scheduled, change_last, gains_program, last_program_count, with_client, with_program, with_tables}
use Rattle.hy_script.specs.ScriptLaws.{ClientFits, FitsFields, IsSaidBy, IsScriptSpellable, ProgramFits, SpellsWhatItReads, plain, words_by_line}
use Rattle.hy_script.specs.Lines.{numbered_lines, words_of}
use Rattle.hy_script.specs.Outcome.{Reads}
use Rattle.hy_script.specs.LineParts.{after_listing, after_program_line, leading}
use Rattle.hy_script.specs.ScriptReading.{script_ended, place_after, place_after_all, read_script, start_after}
use Rattle.hy_script.specs.ScriptFields.{listing_line, program_line, servers_line, shape_line}
use Rattle.hy_script.specs.ScriptSpelling.{asked_fields, begin_words, client_lines, command_words, head_lines, program_lines, script_lines, servers_words, spelled_shape, tables_lines}
use Rattle.hy_script.specs.declared.refused.ReadError.{ReadError}
use Rattle.hy_script.specs.declared.refused.Reading.{Reading}
use Rattle.hy_script.specs.declared.refused.Refused.{Refused}
use Rattle.hy_script.specs.declared.script.ListingLine.{ListingLine}
use Rattle.hy_script.specs.declared.script.ListingLine.TheVariants.{Tables, Client as ClientLine, Begin, Schedule}
use Rattle.hy_script.specs.declared.script.ProgramLine.{ProgramLine}
use Rattle.hy_script.specs.declared.script.ProgramLine.TheVariants.{Next, End}
use Rattle.hy_script.specs.declared.why.Why.{Why}
use Rattle.hy_script.proofs.Drafts.{change_last_is, client_kept, last_program_count_is, program_kept, script_with}
use Rattle.hy_script.proofs.LinesRead.{IsListingLine, IsProgramLine, listing_was, program_was, servers_was, shape_was}
use Rattle.hy_script.proofs.PlaceLemmas.{next_kept}
use Rattle.hy_script.proofs.ProgramLines.{listing_leads, program_leads}
use Rattle.hy_script.proofs.ReadLemmas.{scheduled, finish, then_all}
use Rattle.hy_script.proofs.ScriptLines.{listing_of, servers_leads}
use Rattle.hy_script.proofs.ShapeLines.{shape_leads}

-- lists that grow

pub flat_map_push : {A B : Type 0} (f : A → List B) (xs : List A) (x : A) → flat_map f (xs ++ x ∷ []) ≡ flat_map f xs ++ f x
flat_map_push f [] x = append-nil (f x)
flat_map_push f (y ∷ ys) x = ap (λ l. f y ++ l) (flat_map_push f ys x) ∙ sym (append_assoc (f y) (flat_map f ys) (f x))

-- what was said so far, and what is known of it

abbrev said : Place → List (List Text)
said AtStart = []
said (Shaped shape) = spelled_shape shape ∷ []
said (Listing script) = script_lines script
said (Programming script program) = script_lines script ++ begin_words (mode_of program) ∷ map command_words program.commands
said (Scheduled script start) = script_lines script

record IsOpenProgram (script : Workload) (program : Program) : Type 0 where
  pub script_is : IsScriptSpellable script
  pub some : 0 < length script.clients
  pub room : last_program_count script.clients < most_programs
  pub lawful : IsProgram program
  pub told : is_told script.shape.version program.isolation ≡ true
  pub asks : IsAsOf script.shape program.as_of
  pub fits : AllByRecursion FitsFields program.commands
  pub fits_tables : All (FitsTables script.tables) program.commands

abbrev IsReachedPlace : Place → Type 0
IsReachedPlace AtStart = ⊤
IsReachedPlace (Shaped shape) = IsGoodShape shape
IsReachedPlace (Listing script) = IsScriptSpellable script
IsReachedPlace (Programming script program) = IsOpenProgram script program
IsReachedPlace (Scheduled script start) = IsScriptSpellable script

-- the place after a line, which isn't the schedule's
abbrev Adds : List (List Text) → Text → Place → Type 0
Adds before line place = IsReachedPlace place × (said place ≡ before ++ plain (words_of line) ∷ [])

record IsScheduleLine (before : List (List Text)) (p : ℕ × Text) (script : Workload) (start : ℕ) : Type 0 where
  pub script_is : IsScriptSpellable script
  pub whole : script_lines script ≡ before
  pub number : start ≡ p.0
  pub word : words_of p.1 ≡ codes "schedule" ∷ []

abbrev LineFollows : List (List Text) → ℕ × Text → Place → Type 0
LineFollows before p AtStart = Adds before p.1 AtStart
LineFollows before p (Shaped shape) = Adds before p.1 (Shaped shape)
LineFollows before p (Listing script) = Adds before p.1 (Listing script)
LineFollows before p (Programming script program) = Adds before p.1 (Programming script program)
LineFollows before p (Scheduled script start) = IsScheduleLine before p script start

leading_was : {A : Type 0} (place : A → Place) (read : Result A Why) (next : Place) → leading place read ≡ Ok next → (a : A) × (read ≡ Ok a) × (place a ≡ next)
leading_was place (Ok a) next e = (a, refl, cc (e))
leading_was place (Err why) next e = cc

module _ (sim : Bool) (p : ℕ × Text) (next : Place) where
  from_outset : place_after sim AtStart p ≡ Ok next → LineFollows [] p next
  from_outset e =
      let step = leading_was Shaped (shape_line (words_of p.1)) next (shape_leads sim p.0 (words_of p.1) ∙ e) in
      let was = shape_was (words_of p.1) step.0 step.1 in
      subst (LineFollows [] p) step.2 (was.good, ap (λ w. w ∷ []) (sym was.are))

  from_shaped : (shape : Shape) → IsGoodShape shape → place_after sim (Shaped shape) p ≡ Ok next → LineFollows (said (Shaped shape)) p next
  from_shaped shape good e =
      let step = leading_was (listing_of shape) (servers_line (words_of p.1)) next (servers_leads sim shape p.0 (words_of p.1) ∙ e) in
      let was = servers_was (words_of p.1) step.0 step.1 in
      let lawful : IsScript (record { shape = shape; servers = step.0.servers; keeps = step.0.keeps; tables = 0; clients = [] }) =
      record {
        shape = good;
        servers = was.servers;
        keeps = was.keeps;
        tables = omega arith;
        fits_tables = λ k d below. absurd (omega (arith, below));
        clients = λ k d below. absurd (omega (arith, below));
        client_count = λ k. omega arith;
        isolations = λ k d below. absurd (omega (arith, below));
        positions = tt;
      } in
      subst (LineFollows (said (Shaped shape)) p) step.2 (record { lawful = lawful; clients = tt }, ap (λ w. said (Shaped shape) ++ w ∷ []) (sym was.are))

-- between programs

spellable_client : (script : Workload) (server : ℕ) → IsScriptSpellable script → IsWithin 1 script.servers server → client_count script.clients server < most_clients_of_server → IsScriptSpellable (with_client server script)
spellable_client script server s within room = record {
  lawful = client_kept script.shape script.servers script.keeps script.tables server script.clients s.lawful within room;
  clients = all_push ClientFits script.clients (record { server = server; programs = [] }) s.clients tt;
}

client_said : (script : Workload) (server : ℕ) (words : List Text) → words ≡ codes "client" ∷ decimal server ∷ [] → script_lines (with_client server script) ≡ script_lines script ++ words ∷ []
client_said script server words are =
    ap (λ l. head_lines script ++ l) (flat_map_push client_lines script.clients (record { server = server; programs = [] }))
    ∙ sym (append_assoc (head_lines script) (flat_map client_lines script.clients) ((codes "client" ∷ decimal server ∷ []) ∷ []))
    ∙ ap (λ w. script_lines script ++ w ∷ []) (sym are)

spellable_tables : (script : Workload) (tables : ℕ) → IsScriptSpellable script → IsWithin 1 most_tables tables → script.clients ≡ [] → IsScriptSpellable (with_tables tables script)
spellable_tables script tables s within none = record {
  lawful = record {
    shape = s.lawful.shape;
    servers = s.lawful.servers;
    keeps = s.lawful.keeps;
    tables = within.at_most;
    clients = s.lawful.clients;
    fits_tables = subst (All (ClientFitsTables tables)) (sym none) (λ k d below. absurd (omega (arith, below)));
    client_count = s.lawful.client_count;
    isolations = s.lawful.isolations;
    positions = s.lawful.positions;
  };
  clients = s.clients;
}

-- the number of tables ends a script without clients
tables_said : (script : Workload) (tables : ℕ) (words : List Text) → words ≡ codes "tables" ∷ decimal tables ∷ [] → IsWithin 1 most_tables tables → script.tables ≡ 0 → script.clients ≡ []
    → script_lines (with_tables tables script) ≡ script_lines script ++ words ∷ []
tables_said script tables words are within first none =
    let shape = spelled_shape script.shape in
    let servers = servers_words script.servers script.keeps in
    let told : List Text = codes "tables" ∷ decimal tables ∷ [] in
    let some : (tables == 0) ≡ false = ne_eqb tables 0 (λ e. omega (arith, e, within.at_least)) in
    ap (λ t. (shape ∷ servers ∷ (if t then [] else told ∷ [])) ++ flat_map client_lines script.clients) some
    ∙ ap (λ cs. (shape ∷ servers ∷ told ∷ []) ++ flat_map client_lines cs) none
    ∙ sym (ap (λ n. ((shape ∷ servers ∷ tables_lines n) ++ flat_map client_lines script.clients) ++ told ∷ []) first
    ∙ ap (λ cs. ((shape ∷ servers ∷ []) ++ flat_map client_lines cs) ++ told ∷ []) none)
    ∙ ap (λ w. script_lines script ++ w ∷ []) (sym are)

plain_begin : (isolation : Isolation) (as_of : Option ℕ) → plain (codes "begin" ∷ asked_fields isolation as_of) ≡ codes "begin" ∷ asked_fields isolation as_of
plain_begin Serializable None = refl
plain_begin Snapshot None = refl
plain_begin isolation (Some pos) = refl

plain_command : (command : Command) → plain (command_words command) ≡ command_words command
plain_command (Get key) = refl
plain_command (Put key value) = refl
plain_command (Del key) = refl
plain_command (Add key n) = refl
plain_command (Scan lo hi n) = refl
plain_command (Row table row attribute text) = refl
plain_command (Unrow table row) = refl
plain_command (Cell table row) = refl
plain_command (Find table attribute n) = refl

listed : (script : Workload) (p : ℕ × Text) (read : ListingLine) → IsScriptSpellable script → IsListingLine script (words_of p.1) read → LineFollows (script_lines script) p (after_listing script p.0 read)
listed script p (Tables tables) s was = (spellable_tables script tables s was.1 was.3, tables_said script tables (plain (words_of p.1)) (ap plain was.0) was.1 was.2 was.3)
listed script p (ClientLine server) s was = (spellable_client script server s was.1 was.2, client_said script server (plain (words_of p.1)) (ap plain was.0))
listed script p (Begin mode) s was = (
  record {
    script_is = s;
    some = was.1;
    room = was.2;
    told = was.3;
    asks = was.4.0;
    lawful = record { count = omega arith; commands = λ k d below. absurd (omega (arith, below)); reads = λ asks k d below. absurd (omega (arith, below)); plain = was.4.1 };
    fits = tt;
    fits_tables = λ k d below. absurd (omega (arith, below));
  },
  ap (λ w. script_lines script ++ w ∷ []) (sym (ap plain was.0 ∙ plain_begin mode.isolation mode.as_of)),
)
listed script p Schedule s was = record { script_is = s; whole = refl; number = refl; word = was }

from_listing : (sim : Bool) (p : ℕ × Text) (next : Place) (script : Workload) → IsScriptSpellable script → place_after sim (Listing script) p ≡ Ok next → LineFollows (said (Listing script)) p next
from_listing sim p next script s e =
    let step = leading_was (after_listing script p.0) (listing_line sim script (words_of p.1)) next (listing_leads sim p.0 script (words_of p.1) ∙ e) in
    subst (LineFollows (script_lines script) p) step.2 (listed script p step.0 s (listing_was sim script (words_of p.1) step.0 step.1))

-- in a program

gained_lines : (program : Program) (c : Client) → client_lines (gains_program program c) ≡ client_lines c ++ program_lines program
gained_lines program c = ap (λ l. (codes "client" ∷ decimal c.server ∷ []) ∷ l) (flat_map_push program_lines c.programs program)

changed_lines : (program : Program) (cs : List Client) → 0 < length cs
    → flat_map client_lines (change_last (gains_program program) cs) ≡ flat_map client_lines cs ++ program_lines program
changed_lines program [] some = absurd (omega (arith, some))
changed_lines program (c ∷ []) some =
    append-nil (client_lines (gains_program program c)) ∙ gained_lines program c ∙ ap (λ l. l ++ program_lines program) (sym (append-nil (client_lines c)))
changed_lines program (c ∷ d ∷ cs) some =
    ap (λ l. client_lines c ++ l) (changed_lines program (d ∷ cs) (omega arith))
    ∙ sym (append_assoc (client_lines c) (flat_map client_lines (d ∷ cs)) (program_lines program))

changed_fits : (program : Program) (cs : List Client) → AllByRecursion FitsFields program.commands → AllByRecursion ClientFits cs → AllByRecursion ClientFits (change_last (gains_program program) cs)
changed_fits program [] fits all = tt
changed_fits program (c ∷ []) fits all = (all_push ProgramFits c.programs program all.0 fits, tt)
changed_fits program (c ∷ d ∷ cs) fits all = (all.0, changed_fits program (d ∷ cs) fits all.1)

last_of : (cs : List Client) → 0 < length cs → (front : List Client) × (c : Client) × (cs ≡ front ++ c ∷ [])
last_of [] some = absurd (omega (arith, some))
last_of (c ∷ []) some = ([], c, refl)
last_of (c ∷ d ∷ cs) some = let more = last_of (d ∷ cs) (omega arith) in (c ∷ more.0, more.1, ap (λ l. c ∷ l) more.2)

program_lawful : (script : Workload) (program : Program) → IsScript script → IsOpenProgram script program → IsScript (with_program program script)
program_lawful script program lawful s =
    let last = last_of script.clients s.some in
    let room : length last.1.programs < most_programs = omega (arith, s.room, ap last_program_count last.2, last_program_count_is last.0 last.1) in
    subst (λ cs. IsScript (script_with script cs)) (sym (ap (change_last (gains_program program)) last.2 ∙ change_last_is (gains_program program) last.0 last.1))
    (program_kept script.shape script.servers script.keeps script.tables last.0 last.1 program (subst (λ cs. IsScript (script_with script cs)) last.2 lawful) room s.lawful s.told s.asks s.fits_tables)

spellable_program : (script : Workload) (program : Program) → IsOpenProgram script program → IsScriptSpellable (with_program program script)
spellable_program script program s = record {
  lawful = program_lawful script program s.script_is.lawful s;
  clients = changed_fits program script.clients s.fits s.script_is.clients;
}

program_said : (script : Workload) (program : Program) (words : List Text) → 0 < length script.clients → words ≡ codes "end" ∷ []
    → script_lines (with_program program script) ≡ (script_lines script ++ begin_words (mode_of program) ∷ map command_words program.commands) ++ words ∷ []
program_said script program words some are =
    ap (λ l. head_lines script ++ l) (changed_lines program script.clients some)
    ∙ sym (append_assoc (head_lines script) (flat_map client_lines script.clients) (program_lines program))
    ∙ sym (append_assoc (script_lines script) (begin_words (mode_of program) ∷ map command_words program.commands) ((codes "end" ∷ []) ∷ []))
    ∙ ap (λ w. (script_lines script ++ begin_words (mode_of program) ∷ map command_words program.commands) ++ w ∷ []) (sym are)

command_said : (script : Workload) (program : Program) (command : Command) (words : List Text) → words ≡ command_words command
    → script_lines script ++ begin_words (mode_of program) ∷ map command_words (program.commands ++ command ∷ []) ≡ (script_lines script ++ begin_words (mode_of program) ∷ map command_words program.commands) ++ words ∷ []
command_said script program command words are =
    ap (λ l. script_lines script ++ begin_words (mode_of program) ∷ l) (map_push command_words program.commands command)
    ∙ sym (append_assoc (script_lines script) (begin_words (mode_of program) ∷ map command_words program.commands) (command_words command ∷ []))
    ∙ ap (λ w. (script_lines script ++ begin_words (mode_of program) ∷ map command_words program.commands) ++ w ∷ []) (sym are)

programmed : (script : Workload) (program : Program) (p : ℕ × Text) (read : ProgramLine) → IsOpenProgram script program → IsProgramLine script.tables (is_some program.as_of) (command_count program.commands) (words_of p.1) read
    → LineFollows (said (Programming script program)) p (after_program_line script program read)
programmed script program p (Next command) s was = (
  record {
    script_is = s.script_is;
    some = s.some;
    room = s.room;
    lawful = next_kept program (program.commands ++ command ∷ []) command s.lawful was.lawful was.may was.room refl;
    fits = all_push FitsFields program.commands command s.fits was.fits;
    fits_tables = All-push (FitsTables script.tables) program.commands command s.fits_tables was.fits_tables;
    told = s.told;
    asks = s.asks;
  },
  command_said script program command (plain (words_of p.1)) (ap plain was.are ∙ plain_command command),
)
programmed script program p End s was = (spellable_program script program s, program_said script program (plain (words_of p.1)) s.some (ap plain was))

from_programming : (sim : Bool) (p : ℕ × Text) (next : Place) (script : Workload) (program : Program) → IsOpenProgram script program → place_after sim (Programming script program) p ≡ Ok next
    → LineFollows (said (Programming script program)) p next
from_programming sim p next script program s e =
    let step = leading_was (after_program_line script program) (program_line script.tables (is_some program.as_of) (command_count program.commands) (words_of p.1)) next (program_leads sim p.0 script program (words_of p.1) ∙ e) in
    subst (LineFollows (said (Programming script program)) p) step.2 (programmed script program p step.0 s (program_was script.tables (is_some program.as_of) (command_count program.commands) (words_of p.1) step.0 step.1))

-- all lines

abbrev IsUnscheduled : Place → Type 0
IsUnscheduled AtStart = ⊤
IsUnscheduled (Shaped shape) = ⊤
IsUnscheduled (Listing script) = ⊤
IsUnscheduled (Programming script program) = ⊤
IsUnscheduled (Scheduled script start) = ⊥

step_was : (sim : Bool) (p : ℕ × Text) (place next : Place) → IsUnscheduled place → IsReachedPlace place → place_after sim place p ≡ Ok next → LineFollows (said place) p next
step_was sim p AtStart next going reached e = from_outset sim p next e
step_was sim p (Shaped shape) next going reached e = from_shaped sim p next shape reached e
step_was sim p (Listing script) next going reached e = from_listing sim p next script reached e
step_was sim p (Programming script program) next going reached e = from_programming sim p next script program reached e
step_was sim p (Scheduled script start) next going reached e = absurd going

record HasSchedule (before : List (List Text)) (ps : List (ℕ × Text)) (script : Workload) (start : ℕ) : Type 0 where
  pub front : List (ℕ × Text)
  pub line : Text
  pub rest : List (ℕ × Text)
  pub lines : ps ≡ front ++ (start, line) ∷ rest
  pub whole : script_lines script ≡ before ++ words_by_line front
  pub word : words_of line ≡ codes "schedule" ∷ []

abbrev EndsAtPlace : List (List Text) → List (ℕ × Text) → Place → Type 0
EndsAtPlace before ps AtStart = said AtStart ≡ before ++ words_by_line ps
EndsAtPlace before ps (Shaped shape) = said (Shaped shape) ≡ before ++ words_by_line ps
EndsAtPlace before ps (Listing script) = said (Listing script) ≡ before ++ words_by_line ps
EndsAtPlace before ps (Programming script program) = said (Programming script program) ≡ before ++ words_by_line ps
EndsAtPlace before ps (Scheduled script start) = HasSchedule before ps script start

abbrev Concludes : List (List Text) → List (ℕ × Text) → Place → Type 0
Concludes before ps last = IsReachedPlace last × EndsAtPlace before ps last

more_words : (before so_far : List (List Text)) (p : ℕ × Text) (ps : List (ℕ × Text)) → so_far ≡ before ++ plain (words_of p.1) ∷ [] → so_far ++ words_by_line ps ≡ before ++ words_by_line (p ∷ ps)
more_words before so_far p ps e = ap (λ l. l ++ words_by_line ps) e ∙ append_assoc before (plain (words_of p.1) ∷ []) (words_by_line ps)

ends_more : (before so_far : List (List Text)) (p : ℕ × Text) (ps : List (ℕ × Text)) (last : Place) → so_far ≡ before ++ plain (words_of p.1) ∷ [] → EndsAtPlace so_far ps last → EndsAtPlace before (p ∷ ps) last
ends_more before so_far p ps AtStart e ends = ends ∙ more_words before so_far p ps e
ends_more before so_far p ps (Shaped shape) e ends = ends ∙ more_words before so_far p ps e
ends_more before so_far p ps (Listing script) e ends = ends ∙ more_words before so_far p ps e
ends_more before so_far p ps (Programming script program) e ends = ends ∙ more_words before so_far p ps e
ends_more before so_far p ps (Scheduled script start) e ends = record {
  front = p ∷ ends.front;
  line = ends.line;
  rest = ends.rest;
  lines = ap (λ l. p ∷ l) ends.lines;
  whole = ends.whole ∙ more_words before so_far p ends.front e;
  word = ends.word;
}

ends_at : (place : Place) → IsUnscheduled place → EndsAtPlace (said place) [] place
ends_at AtStart going = refl
ends_at (Shaped shape) going = refl
ends_at (Listing script) going = sym (append-nil (script_lines script))
ends_at (Programming script program) going = sym (append-nil (said (Programming script program)))
ends_at (Scheduled script start) going = absurd going

scheduled_at : (before : List (List Text)) (p : ℕ × Text) (ps : List (ℕ × Text)) (script : Workload) (start : ℕ) (last : Place) → IsScheduleLine before p script start → Scheduled script start ≡ last → Concludes before (p ∷ ps) last
scheduled_at before p ps script start last s e =
    let line : ℕ × Text = (p.0, p.1) in
    let numbered : ℕ × Text = (start, p.1) in
    let same : line ≡ numbered = ap {B = ℕ × Text} (λ n. (n, p.1)) (sym s.number) in
    subst (Concludes before (p ∷ ps)) e
    (s.script_is, record { front = []; line = p.1; rest = ps; lines = ap (λ q. q ∷ ps) same; whole = s.whole ∙ sym (append-nil before); word = s.word })

abbrev Rest : Bool → List (ℕ × Text) → Place → Type 0
Rest sim ps last = (place : Place) → IsUnscheduled place → IsReachedPlace place → place_after_all sim place ps ≡ Ok last → Concludes (said place) ps last

onward : (sim : Bool) (before : List (List Text)) (p : ℕ × Text) (ps : List (ℕ × Text)) (next last : Place) → Rest sim ps last → LineFollows before p next → place_after_all sim next ps ≡ Ok last → Concludes before (p ∷ ps) last
onward sim before p ps AtStart last rest f e = let c = rest AtStart tt f.0 e in (c.0, ends_more before (said AtStart) p ps last f.1 c.1)
onward sim before p ps (Shaped shape) last rest f e = let c = rest (Shaped shape) tt f.0 e in (c.0, ends_more before (said (Shaped shape)) p ps last f.1 c.1)
onward sim before p ps (Listing script) last rest f e = let c = rest (Listing script) tt f.0 e in (c.0, ends_more before (said (Listing script)) p ps last f.1 c.1)
onward sim before p ps (Programming script program) last rest f e =
    let c = rest (Programming script program) tt f.0 e in (c.0, ends_more before (said (Programming script program)) p ps last f.1 c.1)
onward sim before p ps (Scheduled script start) last rest f e =
    let same : Scheduled script start ≡ last = cc (scheduled sim script start ps, e) in
    scheduled_at before p ps script start last f same

then_was : (sim : Bool) (number : ℕ) (ps : List (ℕ × Text)) (read : Result Place Why) (last : Place) → then_all sim number ps read ≡ Ok last → (next : Place) × (read ≡ Ok next) × (place_after_all sim next ps ≡ Ok last)
then_was sim number ps (Ok next) last e = (next, refl, e)
then_was sim number ps (Err why) last e = cc

all_was : (sim : Bool) (ps : List (ℕ × Text)) (last : Place) → Rest sim ps last
all_was sim [] last place going reached e = let same : place ≡ last = cc (e) in subst (Concludes (said place) []) same (reached, ends_at place going)
all_was sim (p ∷ ps) last place going reached e =
    let step = then_was sim p.0 ps (place_after sim place p) last e in
    onward sim (said place) p ps step.0 last (all_was sim ps last) (step_was sim p place step.0 going reached step.1) step.2

-- the whole source

not_long : {B E : Type 0} (t : Bool) (x : Result B E) (y : E) (b : B) → (if t then Err y else x) ≡ Ok b → x ≡ Ok b
not_long true x y b e = cc
not_long false x y b e = e

finished_was : (bytes : Text) (read : Result Place Refused) (reading : Reading) → finish bytes read ≡ Ok reading → (place : Place) × (read ≡ Ok place) × (script_ended bytes place ≡ Ok reading)
finished_was bytes (Ok place) reading e = (place, refl, e)
finished_was bytes (Err fault) reading e = cc

abbrev IsSpelled : List (ℕ × Text) → Reading → Type 0
IsSpelled lines reading = IsScriptSpellable reading.script × IsSaidBy reading.schedule reading.script lines

ended_was : (bytes : Text) (lines : List (ℕ × Text)) (last : Place) (reading : Reading) → Concludes [] lines last → script_ended bytes last ≡ Ok reading → IsSpelled lines reading
ended_was bytes lines AtStart reading c e = cc (e)
ended_was bytes lines (Shaped shape) reading c e = cc (e)
ended_was bytes lines (Programming script program) reading c e = cc (e)
ended_was bytes lines (Listing script) reading c e =
    let same : record { script = script; schedule = None } ≡ reading = cc (e) in
    subst (IsSpelled lines) same (c.0, sym c.1)
ended_was bytes lines (Scheduled script start) reading c e =
    let same : record { script = script; schedule = Some (start_after start bytes) } ≡ reading = cc (e) in
    subst (IsSpelled lines) same (c.0, (c.1.front, start, c.1.line, c.1.rest, c.1.lines, sym c.1.whole, c.1.word, refl))

pub spells_scripts : SpellsWhatItReads
spells_scripts bytes sim reading e =
    let read = not_long (nat_lt 16777216 (length bytes)) (finish bytes (place_after_all sim AtStart (numbered_lines 1 bytes))) _ reading e in
    let was = finished_was bytes (place_after_all sim AtStart (numbered_lines 1 bytes)) reading read in
    ended_was bytes (numbered_lines 1 bytes) was.0 reading (all_was sim (numbered_lines 1 bytes) was.0 AtStart tt tt was.1) was.2

pub spellable : (sim : Bool) (bytes : Text) (result : Result Reading ReadError) → Reads (λ reading. reading) result (read_script bytes sim) → IfOk result (λ reading. IsScriptSpellable reading.script)
spellable sim bytes (Ok reading) told = (spells_scripts bytes sim reading told).0
spellable sim bytes (Err e) told = tt
