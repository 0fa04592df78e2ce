-- What the lines between and in programs lead to.
use Rattle.std.proofs.Common.{arith, eqb-true, ◌≡◌, ℕ, ◌+◌, Bool, true, false, not, ◌&&◌, ◌||◌, List, [], ◌∷◌, ◌++◌, length, refl, sym, ap, subst, ◌∙◌, if◌then◌else◌, nat_lt, nat_le}
use Rattle.std.specs.Prelude.{Some, None, is_some, Result, Ok, Err, bytes_eq, codes}
use Rattle.std.specs.List.{AllByRecursion}
use Rattle.std.specs.Option.{option_map_or}
use Rattle.std.proofs.lemmas.Bool.{ne_eqb}
use Rattle.std.proofs.lemmas.Slice.Eq.{bytes_eq-Decides}
use Rattle.hy_base.specs.declared.workload.Mode.{Mode}
use Rattle.hy_base.specs.declared.record.Isolation.TheVariants.{Serializable, Snapshot}
use Rattle.hy_base.specs.declared.workload.Command.{Command}
use Rattle.hy_base.specs.declared.workload.Program.{Program}
use Rattle.hy_base.specs.declared.workload.Command.TheVariants.{Get, Put, Del, Add, Scan, Row, Unrow, Cell, Find}
use Rattle.hy_base.specs.Entry.{is_told}
use Rattle.hy_base.specs.Script.{Workload, client_count, command_count, counts_as}
use Rattle.hy_base.specs.Tables.{is_table_key}
use Rattle.hy_base.specs.Shape.{is_within}
use Rattle.hy_base.specs.Value.{is_value}
use Rattle.hy_base.specs.Spelling.{Text, number_of}
use Rattle.hy_base.specs.Limits.{most_found, most_tables, most_programs, most_commands, most_clients_of_server}
use Rattle.hy_script.specs.Forms.{Meaning, LineForm, OneNumber, TwoNumbers, ThreeNumbers, NumberAndText, ThreeNumbersAndText, FixedWord, judged_words, meaning_of, is_blank, read_line, read_fields}
use Rattle.hy_script.specs.Fields.{and_then, one_number, two_numbers, three_numbers, number_and_text, three_numbers_and_text, no_fields}
use Rattle.hy_script.specs.Grammar.{Place, Listing, Programming, Scheduled, client_form, tables_form, command_forms, is_row, is_row_text, is_row_with, is_search, may_tell_tables, with_tables, begins_program, begin_forms, end_form, schedule_form, forms_at, makes, makes_if, gains, with_client, with_program, gains_command, plain_mode, mode_at, begun, is_position, last_program_count}
use Rattle.hy_script.specs.LineParts.{leading, after_listing, after_program_line}
use Rattle.hy_script.specs.ScriptFields.{program_line, command_fields, listing_line, tables_fields, client_fields, begin_fields, one_more_program, position_field, put_fields, del_fields, add_fields, row_fields, unrow_fields, cell_fields, find_fields, scan_fields, one_more, one_more_if}
use Rattle.hy_script.specs.declared.script.ProgramLine.{ProgramLine}
use Rattle.hy_script.specs.declared.script.ProgramLine.TheVariants.{Next, End}
use Rattle.hy_script.specs.declared.script.ListingLine.{ListingLine}
use Rattle.hy_script.specs.declared.script.ListingLine.TheVariants.{Tables, Client, Begin, Schedule}
use Rattle.hy_script.specs.declared.why.Why.{Why}
use Rattle.hy_script.specs.declared.why.Why.TheVariants.{Word, Form, Number, Value, Range, Order, Count, Version}
use Rattle.hy_script.proofs.FieldLemmas.{one_field, read_alone, read_one, read_two, read_three, read_text, read_numbers_text, no_form}

-- what leads on for each reading of the fields leads on
over : {A B : Type 0} (place : B → Place) (read : Result A Why) (meaning : A → Meaning Place) (next : A → Result B Why)
    → ((a : A) → judged_words (meaning a) ≡ leading place (next a)) → and_then read (λ a. judged_words (meaning a)) ≡ leading place (and_then read next)
over place (Ok a) meaning next each = each a
over place (Err why) meaning next each = refl

counted : (t : Bool) (script : Workload) (program : Program) (c : Command)
    → judged_words (makes_if ((t, Count) ∷ []) (Programming script (gains_command c program))) ≡ leading (after_program_line script program) (if t then Ok (Next c) else Err Count)
counted true script program c = refl
counted false script program c = refl

ranged : (r t : Bool) (script : Workload) (program : Program) (c : Command)
    → judged_words (makes_if ((r, Range) ∷ (t, Count) ∷ []) (Programming script (gains_command c program))) ≡ leading (after_program_line script program) (if r then (if t then Ok (Next c) else Err Count) else Err Range)
ranged true t script program c = counted t script program c
ranged false t script program c = refl

valued : (s r t : Bool) (script : Workload) (program : Program) (c : Command)
    → judged_words (makes_if ((s, Value) ∷ (r, Range) ∷ (t, Count) ∷ []) (Programming script (gains_command c program)))
    ≡ leading (after_program_line script program) (if s then (if r then (if t then Ok (Next c) else Err Count) else Err Range) else Err Value)
valued true r t script program c = ranged r t script program c
valued false r t script program c = refl

scanned : (r o : Bool) (t : Command → Bool) (script : Workload) (program : Program) (c : Command)
    → judged_words (makes_if ((r, Range) ∷ (o, Order) ∷ (t c, Count) ∷ []) (Programming script (gains_command c program)))
    ≡ leading (after_program_line script program) (and_then (if r then (if o then Ok c else Err Order) else Err Range) (λ d. if t d then Ok (Next d) else Err Count))
scanned true true t script program c = counted (t c) script program c
scanned true false t script program c = refl
scanned false o t script program c = refl

joined : {A B C : Type 0} (read : Result A Why) (f : A → Result B Why) (g : B → Result C Why) → and_then read (λ a. and_then (f a) g) ≡ and_then (and_then read f) g
joined (Ok a) f g = refl
joined (Err why) f g = refl

-- this follows where a word is none of these
abbrev NoneOf : Text → List Text → Type 0 → Type 0
NoneOf word [] P = P
NoneOf word (name ∷ names) P = bytes_eq word name ≡ false → NoneOf word names P

by_name : (P : Text → Type 0) (word name : Text) (t : Bool) → bytes_eq word name ≡ t → P name → (bytes_eq word name ≡ false → P word) → P word
by_name P word name true e is isnt = subst P (sym ((bytes_eq-Decides word name).0 e)) is
by_name P word name false e is isnt = isnt e

-- a word is one of these, or none of them
by_names : (P : Text → Type 0) (word : Text) (names : List Text) → AllByRecursion P names → NoneOf word names (P word) → P word
by_names P word [] each none = none
by_names P word (name ∷ names) each none = by_name P word name (bytes_eq word name) refl each.0 (λ e. by_names P word names each.1 (none e))

-- the lines of a program, where there are tables or aren't, and where it only reads or may also write
module _ (script : Workload) (program : Program) (fields : List Text) where
  abbrev count : ℕ
  count = command_count program.commands

  abbrev Leads : Bool → Bool → Text → Type 0
  Leads has_tables reads word =
      leading (after_program_line script program) (command_fields has_tables reads script.tables count word fields)
      ≡ read_line (command_forms has_tables reads script program ++ end_form script program ∷ []) (word ∷ fields)

  abbrev read_as : Result ProgramLine Why → LineForm Place → Type 0
  read_as line form = leading (after_program_line script program) line ≡ read_fields (form ∷ []) fields

  abbrev room : Command → Bool
  room command = nat_le (count + counts_as command) most_commands

  get_read : read_as (and_then (one_number fields) (λ key. one_more count (Get key))) (OneNumber "get" (λ key. gains script program (Get key) []))
  get_read = sym (read_one "get" _ fields ∙ over _ (one_number fields) (λ key. gains script program (Get key) []) (λ key. one_more count (Get key)) (λ key. counted (room (Get key)) script program (Get key)))

  put_read : read_as (put_fields script.tables count fields) (NumberAndText "put" (λ key value. gains script program (Put key value) ((is_value value, Value) ∷ (not (is_table_key script.tables key), Range) ∷ [])))
  put_read = sym (read_text "put" _ fields ∙ over _ (number_and_text fields) (λ p. gains script program (Put p.0 p.1) ((is_value p.1, Value) ∷ (not (is_table_key script.tables p.0), Range) ∷ []))
      (λ p. if is_value p.1 then one_more_if (not (is_table_key script.tables p.0)) count (Put p.0 p.1) else Err Value)
      (λ p. valued (is_value p.1) (not (is_table_key script.tables p.0)) (room (Put p.0 p.1)) script program (Put p.0 p.1)))

  del_read : read_as (del_fields script.tables count fields) (OneNumber "del" (λ key. gains script program (Del key) ((not (is_table_key script.tables key), Range) ∷ [])))
  del_read = sym (read_one "del" _ fields ∙ over _ (one_number fields) (λ key. gains script program (Del key) ((not (is_table_key script.tables key), Range) ∷ []))
      (λ key. one_more_if (not (is_table_key script.tables key)) count (Del key)) (λ key. ranged (not (is_table_key script.tables key)) (room (Del key)) script program (Del key)))

  add_read : read_as (add_fields script.tables count fields) (TwoNumbers "add" (λ key n. gains script program (Add key n) ((not (is_table_key script.tables key), Range) ∷ [])))
  add_read = sym (read_two "add" _ fields ∙ over _ (two_numbers fields) (λ p. gains script program (Add p.0 p.1) ((not (is_table_key script.tables p.0), Range) ∷ []))
      (λ p. one_more_if (not (is_table_key script.tables p.0)) count (Add p.0 p.1)) (λ p. ranged (not (is_table_key script.tables p.0)) (room (Add p.0 p.1)) script program (Add p.0 p.1)))

  abbrev one_scan : ℕ × ℕ × ℕ → Result Command Why
  one_scan p = if is_within 1 most_found p.2 then (if nat_le p.0 p.1 then Ok (Scan p.0 p.1 p.2) else Err Order) else Err Range

  scan_read : read_as (and_then (scan_fields fields) (one_more count)) (ThreeNumbers "scan" (λ lo hi n. gains script program (Scan lo hi n) ((is_within 1 most_found n, Range) ∷ (nat_le lo hi, Order) ∷ [])))
  scan_read = sym (read_three "scan" _ fields
      ∙ over _ (three_numbers fields) (λ p. gains script program (Scan p.0 p.1 p.2) ((is_within 1 most_found p.2, Range) ∷ (nat_le p.0 p.1, Order) ∷ [])) (λ p. and_then (one_scan p) (one_more count))
      (λ p. scanned (is_within 1 most_found p.2) (nat_le p.0 p.1) room script program (Scan p.0 p.1 p.2))
      ∙ ap (leading (after_program_line script program)) (joined (three_numbers fields) one_scan (one_more count)))

  end_read : read_as (and_then (no_fields fields) (λ u. Ok End)) (end_form script program)
  end_read = sym (read_alone "end" _ fields ∙ over _ (no_fields fields) (λ u. makes (Listing (with_program program script))) (λ u. Ok End) (λ u. refl))

  row_read : read_as (row_fields script.tables count fields) (ThreeNumbersAndText "row" (λ table row attribute text.
      gains script program (Row table row attribute text) ((is_row_text text, Value) ∷ (is_row_with script.tables table row attribute, Range) ∷ [])))
  row_read = sym (read_numbers_text "row" _ fields
      ∙ over _ (three_numbers_and_text fields) (λ p. gains script program (Row p.0 p.1 p.2 p.3) ((is_row_text p.3, Value) ∷ (is_row_with script.tables p.0 p.1 p.2, Range) ∷ []))
      (λ p. if is_row_text p.3 then one_more_if (is_row_with script.tables p.0 p.1 p.2) count (Row p.0 p.1 p.2 p.3) else Err Value)
      (λ p. valued (is_row_text p.3) (is_row_with script.tables p.0 p.1 p.2) (room (Row p.0 p.1 p.2 p.3)) script program (Row p.0 p.1 p.2 p.3)))

  unrow_read : read_as (unrow_fields script.tables count fields) (TwoNumbers "unrow" (λ table row. gains script program (Unrow table row) ((is_row script.tables table row, Range) ∷ [])))
  unrow_read = sym (read_two "unrow" _ fields ∙ over _ (two_numbers fields) (λ p. gains script program (Unrow p.0 p.1) ((is_row script.tables p.0 p.1, Range) ∷ []))
      (λ p. one_more_if (is_row script.tables p.0 p.1) count (Unrow p.0 p.1)) (λ p. ranged (is_row script.tables p.0 p.1) (room (Unrow p.0 p.1)) script program (Unrow p.0 p.1)))

  cell_read : read_as (cell_fields script.tables count fields) (TwoNumbers "cell" (λ table row. gains script program (Cell table row) ((is_row script.tables table row, Range) ∷ [])))
  cell_read = sym (read_two "cell" _ fields ∙ over _ (two_numbers fields) (λ p. gains script program (Cell p.0 p.1) ((is_row script.tables p.0 p.1, Range) ∷ []))
      (λ p. one_more_if (is_row script.tables p.0 p.1) count (Cell p.0 p.1)) (λ p. ranged (is_row script.tables p.0 p.1) (room (Cell p.0 p.1)) script program (Cell p.0 p.1)))

  find_read : read_as (find_fields script.tables count fields)
      (ThreeNumbers "find" (λ table attribute n. gains script program (Find table attribute n) ((is_search script.tables table attribute n, Range) ∷ [])))
  find_read = sym (read_three "find" _ fields ∙ over _ (three_numbers fields) (λ p. gains script program (Find p.0 p.1 p.2) ((is_search script.tables p.0 p.1 p.2, Range) ∷ []))
      (λ p. one_more_if (is_search script.tables p.0 p.1 p.2) count (Find p.0 p.1 p.2)) (λ p. ranged (is_search script.tables p.0 p.1 p.2) (room (Find p.0 p.1 p.2)) script program (Find p.0 p.1 p.2)))

  get_leads : (has_tables reads : Bool) → Leads has_tables reads (codes "get")
  get_leads true true = get_read
  get_leads true false = get_read
  get_leads false true = get_read
  get_leads false false = get_read

  scan_leads : (has_tables reads : Bool) → Leads has_tables reads (codes "scan")
  scan_leads true true = scan_read
  scan_leads true false = scan_read
  scan_leads false true = scan_read
  scan_leads false false = scan_read

  end_leads : (has_tables reads : Bool) → Leads has_tables reads (codes "end")
  end_leads true true = end_read
  end_leads true false = end_read
  end_leads false true = end_read
  end_leads false false = end_read

  cell_leads : (has_tables reads : Bool) → Leads has_tables reads (codes "cell")
  cell_leads true true = cell_read
  cell_leads true false = cell_read
  cell_leads false true = refl
  cell_leads false false = refl

  find_leads : (has_tables reads : Bool) → Leads has_tables reads (codes "find")
  find_leads true true = find_read
  find_leads true false = find_read
  find_leads false true = refl
  find_leads false false = refl

  put_leads : (has_tables reads : Bool) → Leads has_tables reads (codes "put")
  put_leads true true = refl
  put_leads true false = put_read
  put_leads false true = refl
  put_leads false false = put_read

  del_leads : (has_tables reads : Bool) → Leads has_tables reads (codes "del")
  del_leads true true = refl
  del_leads true false = del_read
  del_leads false true = refl
  del_leads false false = del_read

  add_leads : (has_tables reads : Bool) → Leads has_tables reads (codes "add")
  add_leads true true = refl
  add_leads true false = add_read
  add_leads false true = refl
  add_leads false false = add_read

  row_leads : (has_tables reads : Bool) → Leads has_tables reads (codes "row")
  row_leads true true = refl
  row_leads true false = row_read
  row_leads false true = refl
  row_leads false false = refl

  unrow_leads : (has_tables reads : Bool) → Leads has_tables reads (codes "unrow")
  unrow_leads true true = refl
  unrow_leads true false = unrow_read
  unrow_leads false true = refl
  unrow_leads false false = refl

  abbrev names : List Text
  names = codes "get" ∷ codes "scan" ∷ codes "end" ∷ codes "cell" ∷ codes "find" ∷ codes "put" ∷ codes "del" ∷ codes "add" ∷ codes "row" ∷ codes "unrow" ∷ []

  all_lead : (has_tables reads : Bool) → AllByRecursion (Leads has_tables reads) names
  all_lead t r = (get_leads t r, (scan_leads t r, (end_leads t r, (cell_leads t r, (find_leads t r, (put_leads t r, (del_leads t r, (add_leads t r, (row_leads t r, (unrow_leads t r, tt))))))))))

  of_no_name : (has_tables reads : Bool) (word : Text) → NoneOf word names (Leads has_tables reads word)
  of_no_name true true word = λ a b c d e f g h i j. rw (a, b, c, d, e) refl
  of_no_name true false word = λ a b c d e f g h i j. rw (a, b, c, d, e, f, g, h, i, j) refl
  of_no_name false true word = λ a b c d e f g h i j. rw (a, b, c) refl
  of_no_name false false word = λ a b c d e f g h i j. rw (a, b, c, f, g, h) refl

  line_leads : (has_tables reads : Bool) (word : Text) → Leads has_tables reads word
  line_leads t r word = by_names (Leads t r) word names (all_lead t r) (of_no_name t r word)

pub program_leads : (sim : Bool) (number : ℕ) (script : Workload) (program : Program) (words : List Text)
    → leading (after_program_line script program) (program_line script.tables (is_some program.as_of) (command_count program.commands) words) ≡ read_line (forms_at sim (Programming script program) number) words
program_leads sim number script program [] = refl
program_leads sim number script program (word ∷ fields) = line_leads script program fields (nat_lt 0 script.tables) (is_some program.as_of) word

-- between programs

client_room : (t : Bool) (script : Workload) (number server : ℕ)
    → judged_words (makes_if ((t, Count) ∷ []) (Listing (with_client server script))) ≡ leading (after_listing script number) (if t then Ok (Client server) else Err Count)
client_room true script number server = refl
client_room false script number server = refl

client_tests : (r : Bool) (script : Workload) (number server : ℕ)
    → judged_words (makes_if ((r, Range) ∷ (nat_lt (client_count script.clients server) most_clients_of_server, Count) ∷ []) (Listing (with_client server script)))
    ≡ leading (after_listing script number) (and_then (if r then Ok server else Err Range) (λ s. if nat_lt (client_count script.clients s) most_clients_of_server then Ok (Client s) else Err Count))
client_tests true script number server = client_room (nat_lt (client_count script.clients server) most_clients_of_server) script number server
client_tests false script number server = refl

-- what is asked for a program, once its position is in range
begin_room : (t u : Bool) (script : Workload) (number : ℕ) (mode : Mode)
    → judged_words (makes_if ((t, Count) ∷ (u, Version) ∷ []) (Programming script (begun mode))) ≡ leading (after_listing script number) (if t then (if u then Ok (Begin mode) else Err Version) else Err Count)
begin_room true true script number mode = refl
begin_room true false script number mode = refl
begin_room false u script number mode = refl

-- a program of this mode is begun
abbrev begun_by : Workload → Mode → Result ListingLine Why
begun_by script = one_more_program script.shape.version (last_program_count script.clients)

abbrev mode_tests : Bool → Workload → Mode → Meaning Place
mode_tests p script mode = makes_if ((p, Range) ∷ (nat_lt (last_program_count script.clients) most_programs, Count) ∷ (is_told script.shape.version mode.isolation, Version) ∷ []) (Programming script (begun mode))

begin_tests : (p : Bool) (script : Workload) (number : ℕ) (mode : Mode)
    → judged_words (mode_tests p script mode) ≡ leading (after_listing script number) (and_then (if p then Ok mode else Err Range) (begun_by script))
begin_tests true script number mode = begin_room (nat_lt (last_program_count script.clients) most_programs) (is_told script.shape.version mode.isolation) script number mode
begin_tests false script number mode = refl

not_blank : (a : Text) → is_blank a ≡ true → bytes_eq a (codes "snapshot") ≡ false
not_blank [] e = refl
not_blank (b ∷ a) e = absurd (omega (arith, eqb-true (length (b ∷ a)) 0 e))

-- what a field that isn't blank makes
one_word : (is : Bool) (a : Text) (script : Workload) (number : ℕ)
    → leading (after_listing script number) (and_then (if is then Ok (plain_mode Snapshot) else Err Form) (begun_by script))
    ≡ elim (if is then Some (FixedWord "begin" "snapshot" (begins_program script (plain_mode Snapshot))) else None) [ None ↦ Err Form | Some f ↦ option_map_or (λ m. judged_words m) (meaning_of f (a ∷ [])) (Err Number) ]
one_word true a script number = sym (begin_tests true script number (plain_mode Snapshot))
one_word false a script number = refl

blank_word : (is : Bool) (script : Workload) (number : ℕ) → is ≡ false
    → leading (after_listing script number) (and_then (if is then Ok (plain_mode Snapshot) else Err Form) (begun_by script)) ≡ Err Form
blank_word true script number other = cc other
blank_word false script number other = refl

begin_word : (blank is : Bool) (a : Text) (script : Workload) (number : ℕ) → (blank ≡ true → is ≡ false)
    → leading (after_listing script number) (and_then (if is then Ok (plain_mode Snapshot) else Err Form) (begun_by script))
    ≡ (if blank || false then Err Form
    else elim (if is then Some (FixedWord "begin" "snapshot" (begins_program script (plain_mode Snapshot))) else None) [ None ↦ Err Form | Some f ↦ option_map_or (λ m. judged_words m) (meaning_of f (a ∷ [])) (Err Number) ])
begin_word true is a script number blanks = blank_word is script number (blanks refl)
begin_word false is a script number blanks = one_word is a script number

-- a position
position_read : (number : ℕ) (script : Workload) (b : Text) → leading (after_listing script number) (begin_fields script (codes "at" ∷ b ∷ [])) ≡ read_fields (begin_forms script) (codes "at" ∷ b ∷ [])
position_read number script b =
    let read = one_number (b ∷ []) in
    let ranged : ℕ → Result Mode Why = λ pos. if is_position script.shape pos then Ok (mode_at pos) else Err Range in
    sym (one_field (is_blank b) (λ pos. begins_program script (mode_at pos)) (number_of b)
    ∙ over (after_listing script number) read (λ pos. begins_program script (mode_at pos)) (λ pos. and_then (ranged pos) (begun_by script)) (λ pos. begin_tests (is_position script.shape pos) script number (mode_at pos))
    ∙ ap (leading (after_listing script number)) (joined read ranged (begun_by script)))

two_words : (is : Bool) (number : ℕ) (script : Workload) (a b : Text) → bytes_eq a (codes "at") ≡ is → leading (after_listing script number) (begin_fields script (a ∷ b ∷ [])) ≡ read_fields (begin_forms script) (a ∷ b ∷ [])
two_words true number script a b is =
    subst (λ w. leading (after_listing script number) (begin_fields script (w ∷ b ∷ [])) ≡ read_fields (begin_forms script) (w ∷ b ∷ [])) (sym ((bytes_eq-Decides a (codes "at")).0 is)) (position_read number script b)
two_words false number script a b is =
    ap (λ t. leading (after_listing script number) (and_then (if t then position_field script.shape (b ∷ []) else Err Form) (begun_by script))) is
    ∙ sym (no_form (begin_forms script) (a ∷ b ∷ []) (refl, (refl, (is, tt))))

begin_forms_read : (number : ℕ) (script : Workload) (fields : List Text) → leading (after_listing script number) (begin_fields script fields) ≡ read_fields (begin_forms script) fields
begin_forms_read number script [] = sym (begin_tests true script number (plain_mode Serializable))
begin_forms_read number script (a ∷ []) = begin_word (is_blank a) (bytes_eq a (codes "snapshot")) a script number (not_blank a)
begin_forms_read number script (a ∷ b ∷ []) = two_words (bytes_eq a (codes "at")) number script a b refl
begin_forms_read number script (a ∷ b ∷ c ∷ rest) =
    let fields = a ∷ b ∷ c ∷ rest in
    sym (no_form (begin_forms script) fields (ne_eqb 0 (length fields) (omega arith), (ne_eqb 1 (length fields) (omega arith), (ne_eqb 2 (length fields) (omega arith), tt))))

-- the same with stuck tests in place
abbrev listing_with : Bool → Bool → Bool → Workload → Text → List Text → Result ListingLine Why
listing_with sim free some script word fields =
    if bytes_eq word (codes "client") then client_fields script fields
    else if free && bytes_eq word (codes "tables") then tables_fields fields
    else if some && bytes_eq word (codes "begin") then begin_fields script fields
    else if sim && bytes_eq word (codes "schedule") then and_then (no_fields fields) (λ u. Ok Schedule)
    else Err Word

abbrev forms_with : Bool → Bool → Bool → Workload → ℕ → List (LineForm Place)
forms_with sim free some script number =
    client_form script ∷ (if free then tables_form script ∷ [] else []) ++ (if some then begin_forms script else []) ++ (if sim then schedule_form number script ∷ [] else [])

tables_test : (r : Bool) (script : Workload) (number tables : ℕ)
    → judged_words (makes_if ((r, Range) ∷ []) (Listing (with_tables tables script))) ≡ leading (after_listing script number) (and_then (if r then Ok tables else Err Range) (λ n. Ok (Tables n)))
tables_test true script number tables = refl
tables_test false script number tables = refl

module _ (number : ℕ) (script : Workload) (fields : List Text) where
  abbrev Lists : Bool → Bool → Bool → Text → Type 0
  Lists sim free some word = leading (after_listing script number) (listing_with sim free some script word fields) ≡ read_line (forms_with sim free some script number) (word ∷ fields)

  abbrev number_in : ℕ → ℕ → Result ℕ Why
  number_in high n = if is_within 1 high n then Ok n else Err Range

  abbrev with_room : ℕ → Result ListingLine Why
  with_room s = if nat_lt (client_count script.clients s) most_clients_of_server then Ok (Client s) else Err Count

  client_read : leading (after_listing script number) (client_fields script fields) ≡ read_fields (client_form script ∷ []) fields
  client_read = sym (read_one "client" _ fields
      ∙ over (after_listing script number) (one_number fields) (λ s. makes_if ((is_within 1 script.servers s, Range) ∷ (nat_lt (client_count script.clients s) most_clients_of_server, Count) ∷ []) (Listing (with_client s script)))
      (λ n. and_then (number_in script.servers n) with_room) (λ n. client_tests (is_within 1 script.servers n) script number n)
      ∙ ap (leading (after_listing script number)) (joined (one_number fields) (number_in script.servers) with_room))

  tables_read : leading (after_listing script number) (tables_fields fields) ≡ read_fields (tables_form script ∷ []) fields
  tables_read = sym (read_one "tables" _ fields
      ∙ over (after_listing script number) (one_number fields) (λ n. makes_if ((is_within 1 most_tables n, Range) ∷ []) (Listing (with_tables n script)))
      (λ n. and_then (number_in most_tables n) (λ t. Ok (Tables t))) (λ n. tables_test (is_within 1 most_tables n) script number n)
      ∙ ap (leading (after_listing script number)) (joined (one_number fields) (number_in most_tables) (λ t. Ok (Tables t))))

  begin_read : leading (after_listing script number) (begin_fields script fields) ≡ read_fields (begin_forms script) fields
  begin_read = begin_forms_read number script fields

  schedule_read : leading (after_listing script number) (and_then (no_fields fields) (λ u. Ok Schedule)) ≡ read_fields (schedule_form number script ∷ []) fields
  schedule_read = sym (read_alone "schedule" _ fields ∙ over (after_listing script number) (no_fields fields) (λ u. makes (Scheduled script number)) (λ u. Ok Schedule) (λ u. refl))

  client_leads : (sim free some : Bool) → Lists sim free some (codes "client")
  client_leads true true true = client_read
  client_leads true true false = client_read
  client_leads true false true = client_read
  client_leads true false false = client_read
  client_leads false true true = client_read
  client_leads false true false = client_read
  client_leads false false true = client_read
  client_leads false false false = client_read

  tables_leads : (sim free some : Bool) → Lists sim free some (codes "tables")
  tables_leads true true true = tables_read
  tables_leads true true false = tables_read
  tables_leads true false true = refl
  tables_leads true false false = refl
  tables_leads false true true = tables_read
  tables_leads false true false = tables_read
  tables_leads false false true = refl
  tables_leads false false false = refl

  begin_leads : (sim free some : Bool) → Lists sim free some (codes "begin")
  begin_leads true true true = begin_read
  begin_leads true true false = refl
  begin_leads true false true = begin_read
  begin_leads true false false = refl
  begin_leads false true true = begin_read
  begin_leads false true false = refl
  begin_leads false false true = begin_read
  begin_leads false false false = refl

  schedule_leads : (sim free some : Bool) → Lists sim free some (codes "schedule")
  schedule_leads true true true = schedule_read
  schedule_leads true true false = schedule_read
  schedule_leads true false true = schedule_read
  schedule_leads true false false = schedule_read
  schedule_leads false true true = refl
  schedule_leads false true false = refl
  schedule_leads false false true = refl
  schedule_leads false false false = refl

  abbrev listing_names : List Text
  listing_names = codes "client" ∷ codes "tables" ∷ codes "begin" ∷ codes "schedule" ∷ []

  none_leads : (sim free some : Bool) (word : Text) → NoneOf word listing_names (Lists sim free some word)
  none_leads true true true word = λ a b c d. rw (a, b, c, d) refl
  none_leads true true false word = λ a b c d. rw (a, b, d) refl
  none_leads true false true word = λ a b c d. rw (a, c, d) refl
  none_leads true false false word = λ a b c d. rw (a, d) refl
  none_leads false true true word = λ a b c d. rw (a, b, c) refl
  none_leads false true false word = λ a b c d. rw (a, b) refl
  none_leads false false true word = λ a b c d. rw (a, c) refl
  none_leads false false false word = λ a b c d. rw a refl

  word_leads : (sim free some : Bool) (word : Text) → Lists sim free some word
  word_leads s f c word =
      by_names (Lists s f c) word listing_names (client_leads s f c, (tables_leads s f c, (begin_leads s f c, (schedule_leads s f c, tt)))) (none_leads s f c word)

pub listing_leads : (sim : Bool) (number : ℕ) (script : Workload) (words : List Text)
    → leading (after_listing script number) (listing_line sim script words) ≡ read_line (forms_at sim (Listing script) number) words
listing_leads sim number script [] = refl
listing_leads sim number script (word ∷ fields) = word_leads number script fields sim (may_tell_tables script) (nat_lt 0 (length script.clients)) word
