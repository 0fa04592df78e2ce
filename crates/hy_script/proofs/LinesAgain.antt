-- The words of a spelled line are read as what they spell.
use Rattle.std.proofs.Common.{arith, eqb-true, lt-ltb, sym, ◌%◌, ◌≡◌, ℕ, ◌+◌, ◌<◌, ◌≤◌, ◌^◌, ◌==◌, Bool, true, false, not, ◌&&◌, List, [], ◌∷◌, length, refl, ap, zero, suc, ◌*◌, ◌∙◌, if◌then◌else◌, nat_lt, nat_le}
use Rattle.std.specs.Fmt.{digits}
use Rattle.std.specs.Prelude.{Option, Some, None, IfSome, Result, Ok, Err, is_ok, ok_or, codes, decimal}
use Rattle.std.specs.Option.{is_some}
use Rattle.std.proofs.lemmas.Bool.{and_from, eq-eqb, le-leb, ne_eqb}
use Rattle.std.proofs.lemmas.Fmt.{decimal_nonempty}
use Rattle.hy_base.specs.declared.layout.Shape.{Shape}
use Rattle.hy_base.specs.declared.record.Isolation.{Isolation}
use Rattle.hy_base.specs.declared.record.Isolation.TheVariants.{Serializable, Snapshot}
use Rattle.hy_base.specs.declared.workload.Command.{Command}
use Rattle.hy_base.specs.declared.workload.Command.TheVariants.{Get, Put, Del, Add, Scan, Row, Unrow, Cell, Find}
use Rattle.hy_base.specs.Entry.{is_told}
use Rattle.hy_base.specs.declared.workload.Mode.{Mode}
use Rattle.hy_base.specs.Script.{Workload, FitsTables, IsCommand, IsReading, client_count, counts_as}
use Rattle.hy_base.specs.Tables.{attribute_limit, is_table_key, row_limit, text_limit}
use Rattle.hy_base.specs.Shape.{newest_version, has_horizon, shape_fault, IsWithin, IsGoodShape, is_within, largest_cap}
use Rattle.hy_base.specs.Spelling.{Text}
use Rattle.hy_base.specs.Value.{is_value}
use Rattle.hy_base.proofs.ShapeLemmas.{IsWithin-test}
use Rattle.hy_script.specs.Fields.{and_then, number_field, one_number, two_numbers, three_numbers, four_numbers, number_and_text, three_numbers_and_text, no_fields}
use Rattle.hy_script.specs.Forms.{is_blank}
use Rattle.hy_script.specs.Grammar.{mode_at, is_position, is_row, is_row_text, is_row_with, is_search, last_program_count, may_tell_tables}
use Rattle.hy_script.specs.LineParts.{IsMode}
use Rattle.hy_script.specs.ScriptLaws.{FitsFields}
use Rattle.hy_script.specs.ScriptFields.{tables_fields, begin_fields, one_more_program, listing_line, mode_fields, number_within, one_more, one_more_if, put_fields, del_fields, add_fields, command_fields, program_line, servers_line, servers_numbers, servers_within, shape_line, shape_numbers, good_shape}
use Rattle.hy_script.specs.ScriptSpelling.{asked_fields, begin_words, command_words, horizon_fields, servers_words, spelled_shape, version_fields}
use Rattle.hy_script.specs.declared.script.ToldShape.{ToldShape}
use Rattle.hy_script.specs.declared.script.ListingLine.TheVariants.{Tables, Client, Begin, Schedule}
use Rattle.hy_script.specs.declared.script.ProgramLine.{ProgramLine}
use Rattle.hy_script.specs.declared.script.ProgramLine.TheVariants.{Next}
use Rattle.hy_script.specs.declared.why.Why.{Why}
use Rattle.hy_script.specs.declared.why.Why.TheVariants.{Word, Number, Value, Range, Order, Count, Version}
use Rattle.hy_base.proofs.NumberLemmas.{number_of_decimal}
use Rattle.hy_base.specs.Limits.{IsServerNumber, most_boards, most_clients_of_server, most_commands, most_found, most_programs, most_servers, most_tables}
use Rattle.hy_script.proofs.FieldLemmas.{passes}
use Rattle.hy_script.proofs.ShapeLines.{good_passes}

-- fields

field_again : (n : ℕ) → n < 2 ^ 64 → number_field (decimal n) ≡ Ok n
field_again n small = ap (λ x. ok_or x Number) (number_of_decimal (decimal n) n small refl)

some : (n : ℕ) → n < 2 ^ 64 → is_blank (decimal n) ≡ false
some n small = ne_eqb (length (decimal n)) 0 (λ e. omega (arith, e, decimal_nonempty n small))

pub one_again : (n : ℕ) → n < 2 ^ 64 → one_number (decimal n ∷ []) ≡ Ok n
one_again n small = rw (some n small) (field_again n small)

pub two_again : (l m : ℕ) → l < 2 ^ 64 → m < 2 ^ 64 → two_numbers (decimal l ∷ decimal m ∷ []) ≡ Ok (l, m)
two_again l m a b = rw (some l a, some m b, field_again l a, field_again m b) refl

pub three_again : (l m n : ℕ) → l < 2 ^ 64 → m < 2 ^ 64 → n < 2 ^ 64 → three_numbers (decimal l ∷ decimal m ∷ decimal n ∷ []) ≡ Ok (l, m, n)
three_again l m n a b c = rw (some l a, some m b, some n c, field_again l a, field_again m b, field_again n c) refl

value_some : (value : Text) → is_value value ≡ true → is_blank value ≡ false
value_some [] e = cc
value_some (b ∷ bytes) e = ne_eqb (length (b ∷ bytes)) 0 (λ none. omega (arith, none))

pub text_again : (n : ℕ) (value : Text) → n < 2 ^ 64 → is_value value ≡ true → number_and_text (decimal n ∷ value ∷ []) ≡ Ok (n, value)
text_again n value small e = rw (some n small, value_some value e, field_again n small) refl

pub numbers_text_again : (l m n : ℕ) (text : Text) → l < 2 ^ 64 → m < 2 ^ 64 → n < 2 ^ 64 → is_value text ≡ true → three_numbers_and_text (decimal l ∷ decimal m ∷ decimal n ∷ text ∷ []) ≡ Ok (l, m, n, text)
numbers_text_again l m n text a b c e = rw (some l a, some m b, some n c, value_some text e, field_again l a, field_again m b, field_again n c) refl

if_so : {A : Type 0} (t : Bool) (x y : A) → t ≡ true → (if t then x else y) ≡ x
if_so true x y e = refl
if_so false x y e = cc

-- lines

pub four_again : (k l m n : ℕ) → k < 2 ^ 64 → l < 2 ^ 64 → m < 2 ^ 64 → n < 2 ^ 64 → four_numbers (decimal k ∷ decimal l ∷ decimal m ∷ decimal n ∷ []) ≡ Ok (k, l, m, n)
four_again k l m n a b c d = rw (some k a, some l b, some m c, some n d, field_again k a, field_again l b, field_again m c, field_again n d) refl

abbrev told_of : ℕ → ℕ → ℕ → ℕ → Option ℕ → ToldShape
told_of group window cap version horizon = record { group = group; window = window; cap = cap; version = version; horizon = horizon }

-- the numbers of a shape, by its version
module _ (group window cap low : ℕ) (a : group < 2 ^ 64) (b : window < 2 ^ 64) (c : cap < 2 ^ 64) where
  numbers_by : (version : ℕ) (horizon : Option ℕ) → IsWithin 1 newest_version version → IfSome horizon (IsWithin low largest_cap) → is_some horizon ≡ has_horizon version
      → shape_numbers (decimal group ∷ decimal window ∷ decimal cap ∷ (if version == 1 then [] else decimal version ∷ horizon_fields horizon)) ≡ Ok (told_of group window cap version horizon)
  unfolding digits
  numbers_by zero horizon version within there = absurd (omega (arith, version.at_least))
  numbers_by (suc zero) None version within there = ap {B = Result ToldShape Why} (λ read. and_then read (λ p. Ok (told_of p.0 p.1 p.2 1 None))) (three_again group window cap a b c)
  numbers_by (suc zero) (Some h) version within there = cc
  numbers_by (suc (suc zero)) None version within there = ap {B = Result ToldShape Why} (λ read. and_then read (λ p. Ok (told_of p.0 p.1 p.2 p.3 None))) (four_again group window cap 2 a b c (omega arith))
  numbers_by (suc (suc zero)) (Some h) version within there = cc
  numbers_by (suc (suc (suc zero))) None version within there = cc
  numbers_by (suc (suc (suc zero))) (Some h) version within there =
      ap {B = Result ToldShape Why} (λ read. and_then read (λ p. Ok (told_of p.0 p.1 p.2 3 (Some p.3)))) (four_again group window cap h a b c (omega (arith, within.at_most)))
  numbers_by (suc (suc (suc (suc n)))) horizon version within there = absurd (omega (arith, version.at_most))

numbers_again : (shape : Shape) → IsGoodShape shape
    → shape_numbers (decimal shape.group ∷ decimal shape.window ∷ decimal shape.cap ∷ version_fields shape) ≡ Ok (told_of shape.group shape.window shape.cap shape.version shape.horizon)
numbers_again shape good =
    numbers_by shape.group shape.window shape.cap (shape.group * shape.window) (omega (arith, good.group.at_most)) (omega (arith, good.window.at_most)) (omega (arith, good.cap.at_most))
    shape.version shape.horizon good.version good.horizon good.versioned

pub shape_again : (shape : Shape) → IsGoodShape shape → shape_line (spelled_shape shape) ≡ Ok shape
shape_again shape good =
    ap (λ read. and_then read (λ t. ok_or (good_shape t) Range)) (numbers_again shape good)
    ∙ ap (λ found. ok_or found Range) (if_so (is_ok (shape_fault shape)) (Some shape) None (good_passes shape good))

within_again : (low high n : ℕ) → high < 2 ^ 64 → IsWithin low high n → number_within low high (decimal n ∷ []) ≡ Ok n
within_again low high n small w =
    ap (λ read. and_then read (λ m. if is_within low high m then Ok m else Err Range)) (one_again n (omega (arith, small, w.at_most)))
    ∙ if_so (is_within low high n) (Ok n) (Err Range) (IsWithin-test low high n w)

keeps_again : (t : Bool) (servers keeps : ℕ) → servers < 2 ^ 64 → keeps < 2 ^ 64 → (t ≡ true → keeps ≡ 1) → servers_numbers (decimal servers ∷ (if t then [] else decimal keeps ∷ [])) ≡ Ok (servers, keeps)
keeps_again true servers keeps a b one =
    ap {B = Result (ℕ × ℕ) Why} (λ read. and_then read (λ n. Ok (n, 1))) (one_again servers a) ∙ ap {B = Result (ℕ × ℕ) Why} (λ k. Ok (servers, k)) (sym (one refl))
keeps_again false servers keeps a b one = two_again servers keeps a b

pub servers_again : (servers keeps : ℕ) → IsServerNumber servers → IsWithin 1 most_boards keeps → servers_line (servers_words servers keeps) ≡ Ok (record { servers = servers; keeps = keeps })
servers_again servers keeps a b =
    ap (λ read. and_then read servers_within) (keeps_again (keeps == 1) servers keeps (omega (arith, a.at_most)) (omega (arith, b.at_most)) (λ e. eqb-true keeps 1 e))
    ∙ if_so (is_within 1 most_servers servers && is_within 1 most_boards keeps) (Ok (record { servers = servers; keeps = keeps })) (Err Range)
    (and_from (is_within 1 most_servers servers) (is_within 1 most_boards keeps) (IsWithin-test 1 most_servers servers a) (IsWithin-test 1 most_boards keeps b))

pub client_again : (sim : Bool) (script : Workload) (server : ℕ) → script.servers ≤ most_servers → IsWithin 1 script.servers server → client_count script.clients server < most_clients_of_server
    → listing_line sim script (codes "client" ∷ decimal server ∷ []) ≡ Ok (Client server)
client_again sim script server few w room =
    ap (λ read. and_then read (λ s. if nat_lt (client_count script.clients s) most_clients_of_server then Ok (Client s) else Err Count)) (within_again 1 script.servers server (omega (arith, few)) w)
    ∙ if_so (nat_lt (client_count script.clients server) most_clients_of_server) (Ok (Client server)) (Err Count) (lt-ltb (client_count script.clients server) most_clients_of_server room)

-- tables are told where neither they nor a client were
pub tables_again : (sim : Bool) (script : Workload) (tables : ℕ) → may_tell_tables script ≡ true → IsWithin 1 most_tables tables → listing_line sim script (codes "tables" ∷ decimal tables ∷ []) ≡ Ok (Tables tables)
tables_again sim script tables may w =
    if_so (may_tell_tables script && true) (tables_fields (decimal tables ∷ [])) _ (ap (λ t. t && true) may)
    ∙ ap (λ read. and_then read (λ n. Ok (Tables n))) (within_again 1 most_tables tables (omega arith) w)

mode_again : (shape : Shape) → IsGoodShape shape → (isolation : Isolation) (as_of : Option ℕ) → IsMode shape (record { isolation = isolation; as_of = as_of })
    → mode_fields shape (asked_fields isolation as_of) ≡ Ok (record { isolation = isolation; as_of = as_of })
mode_again shape good Serializable None asks = refl
mode_again shape good Snapshot None asks = refl
mode_again shape good isolation (Some pos) asks =
    ap (λ read. and_then read (λ p. if is_position shape p then Ok (mode_at p) else Err Range)) (one_again pos (omega (arith, asks.0.1, good.cap.at_most)))
    ∙ if_so (is_position shape pos) (Ok (mode_at pos)) (Err Range) (and_from (pos % shape.group == 0) (nat_le pos shape.cap) (eq-eqb (pos % shape.group) 0 asks.0.0) (le-leb pos shape.cap asks.0.1))
    ∙ ap (λ i. Ok (record { isolation = i; as_of = Some pos })) (sym (asks.1 refl))

begins_again : (version count : ℕ) (mode : Mode) → count < most_programs → is_told version mode.isolation ≡ true → one_more_program version count mode ≡ Ok (Begin mode)
begins_again version count mode room told =
    if_so (nat_lt count most_programs) (if is_told version mode.isolation then Ok (Begin mode) else Err Version) (Err Count) (lt-ltb count most_programs room)
    ∙ if_so (is_told version mode.isolation) (Ok (Begin mode)) (Err Version) told

pub begin_again : (sim : Bool) (script : Workload) (mode : Mode) → IsGoodShape script.shape → 0 < length script.clients → last_program_count script.clients < most_programs → is_told script.shape.version mode.isolation ≡ true → IsMode script.shape mode
    → listing_line sim script (begin_words mode) ≡ Ok (Begin mode)
begin_again sim script mode good is room told asks =
    passes (may_tell_tables script) (tables_fields (asked_fields mode.isolation mode.as_of)) _
    ∙ ap (λ t. if t && true then begin_fields script (asked_fields mode.isolation mode.as_of) else if sim && false then and_then (no_fields (asked_fields mode.isolation mode.as_of)) (λ u. Ok Schedule) else Err Word) (lt-ltb 0 (length script.clients) is)
    ∙ ap (λ read. and_then read (one_more_program script.shape.version (last_program_count script.clients))) (mode_again script.shape good mode.isolation mode.as_of asks)
    ∙ begins_again script.shape.version (last_program_count script.clients) mode room told

pub schedule_again : (script : Workload) → listing_line true script (codes "schedule" ∷ []) ≡ Ok Schedule
schedule_again script = passes (may_tell_tables script) _ _ ∙ passes (nat_lt 0 (length script.clients)) _ _

one_more_again : (count : ℕ) (command : Command) → count + counts_as command ≤ most_commands → one_more count command ≡ Ok (Next command)
one_more_again count command room = if_so (nat_le (count + counts_as command) most_commands) (Ok (Next command)) (Err Count) (le-leb (count + counts_as command) most_commands room)

in_range_again : (t : Bool) (count : ℕ) (command : Command) → t ≡ true → count + counts_as command ≤ most_commands → one_more_if t count command ≡ Ok (Next command)
in_range_again t count command e room = if_so t (one_more count command) (Err Range) e ∙ one_more_again count command room

-- the lines of commands that write, where there are tables or aren't
module _ (t : Bool) (tables count : ℕ) (fields : List Text) where
  abbrev ReadAs : Text → Result ProgramLine Why → Type 0
  ReadAs word read = command_fields t false tables count word fields ≡ read

  at_put : ReadAs (codes "put") (put_fields tables count fields)
  at_put = passes t _ _ ∙ passes t _ _

  at_del : ReadAs (codes "del") (del_fields tables count fields)
  at_del = passes t _ _ ∙ passes t _ _

  at_add : ReadAs (codes "add") (add_fields tables count fields)
  at_add = passes t _ _ ∙ passes t _ _

-- with tables, the line of a command of theirs
with_them : (reads : Bool) (tables table count : ℕ) (word : Text) (fields : List Text) → IsWithin 1 tables table → program_line tables reads count (word ∷ fields) ≡ command_fields true reads tables count word fields
with_them reads tables table count word fields w = ap (λ t. command_fields t reads tables count word fields) (lt-ltb 0 tables (omega (arith, w.at_least, w.at_most)))

row_test : (tables table row : ℕ) → IsWithin 1 tables table → row < row_limit → is_row tables table row ≡ true
row_test tables table row w small = and_from (is_within 1 tables table) (nat_lt row row_limit) (IsWithin-test 1 tables table w) (lt-ltb row row_limit small)

-- a command that may stand there, since it reads or the program may write
pub command_again : (tables : ℕ) (reads : Bool) (count : ℕ) (command : Command) → tables ≤ most_tables → FitsFields command → IsCommand command → (reads ≡ true → IsReading command) → FitsTables tables command → count + counts_as command ≤ most_commands
    → program_line tables reads count (command_words command) ≡ Ok (Next command)
command_again tables reads count (Get key) few fits lawful may there room = ap (λ read. and_then read (λ k. one_more count (Get k))) (one_again key fits) ∙ one_more_again count (Get key) room
command_again tables true count (Put key value) few fits lawful may there room = absurd (may refl)
command_again tables false count (Put key value) few fits lawful may there room =
    at_put (nat_lt 0 tables) tables count (decimal key ∷ value ∷ [])
    ∙ ap (λ read. and_then read (λ p. if is_value p.1 then one_more_if (not (is_table_key tables p.0)) count (Put p.0 p.1) else Err Value)) (text_again key value fits lawful)
    ∙ if_so (is_value value) (one_more_if (not (is_table_key tables key)) count (Put key value)) (Err Value) lawful ∙ in_range_again (not (is_table_key tables key)) count (Put key value) (ap not there) room
command_again tables true count (Del key) few fits lawful may there room = absurd (may refl)
command_again tables false count (Del key) few fits lawful may there room =
    at_del (nat_lt 0 tables) tables count (decimal key ∷ [])
    ∙ ap (λ read. and_then read (λ k. one_more_if (not (is_table_key tables k)) count (Del k))) (one_again key fits) ∙ in_range_again (not (is_table_key tables key)) count (Del key) (ap not there) room
command_again tables true count (Add key n) few fits lawful may there room = absurd (may refl)
command_again tables false count (Add key n) few fits lawful may there room =
    at_add (nat_lt 0 tables) tables count (decimal key ∷ decimal n ∷ [])
    ∙ ap (λ read. and_then read (λ p. one_more_if (not (is_table_key tables p.0)) count (Add p.0 p.1))) (two_again key n fits.0 fits.1)
    ∙ in_range_again (not (is_table_key tables key)) count (Add key n) (ap not there) room
command_again tables reads count (Scan lo hi n) few fits lawful may there room =
    let read = three_again lo hi n (omega (arith, fits, lawful.0)) fits (omega (arith, lawful.1.at_most)) in
    ap (λ r. and_then (and_then r (λ p. if is_within 1 most_found p.2 then (if nat_le p.0 p.1 then Ok (Scan p.0 p.1 p.2) else Err Order) else Err Range)) (one_more count)) read
    ∙ ap (λ r. and_then r (one_more count))
    (if_so (is_within 1 most_found n) (if nat_le lo hi then Ok (Scan lo hi n) else Err Order) (Err Range) (IsWithin-test 1 most_found n lawful.1) ∙ if_so (nat_le lo hi) (Ok (Scan lo hi n)) (Err Order) (le-leb lo hi lawful.0))
    ∙ one_more_again count (Scan lo hi n) room
command_again tables true count (Row table row attribute text) few fits lawful may there room = absurd (may refl)
command_again tables false count (Row table row attribute text) few fits lawful may there room =
    with_them false tables table count (codes "row") (decimal table ∷ decimal row ∷ decimal attribute ∷ text ∷ []) there
    ∙ ap (λ read. and_then read (λ p. if is_row_text p.3 then one_more_if (is_row_with tables p.0 p.1 p.2) count (Row p.0 p.1 p.2 p.3) else Err Value))
    (numbers_text_again table row attribute text (omega (arith, few, there.at_most)) (omega (arith, lawful.0)) (omega (arith, lawful.1)) lawful.2.value)
    ∙ if_so (is_row_text text) (one_more_if (is_row_with tables table row attribute) count (Row table row attribute text)) (Err Value)
    (and_from (is_value text) (nat_le (length text) text_limit) lawful.2.value (le-leb (length text) text_limit lawful.2.short))
    ∙ in_range_again (is_row_with tables table row attribute) count (Row table row attribute text)
    (and_from (is_row tables table row) (nat_lt attribute attribute_limit) (row_test tables table row there lawful.0) (lt-ltb attribute attribute_limit lawful.1)) room
command_again tables true count (Unrow table row) few fits lawful may there room = absurd (may refl)
command_again tables false count (Unrow table row) few fits lawful may there room =
    with_them false tables table count (codes "unrow") (decimal table ∷ decimal row ∷ []) there
    ∙ ap (λ read. and_then read (λ p. one_more_if (is_row tables p.0 p.1) count (Unrow p.0 p.1))) (two_again table row (omega (arith, few, there.at_most)) (omega (arith, lawful)))
    ∙ in_range_again (is_row tables table row) count (Unrow table row) (row_test tables table row there lawful) room
command_again tables reads count (Cell table row) few fits lawful may there room =
    with_them reads tables table count (codes "cell") (decimal table ∷ decimal row ∷ []) there
    ∙ ap (λ read. and_then read (λ p. one_more_if (is_row tables p.0 p.1) count (Cell p.0 p.1))) (two_again table row (omega (arith, few, there.at_most)) (omega (arith, lawful)))
    ∙ in_range_again (is_row tables table row) count (Cell table row) (row_test tables table row there lawful) room
command_again tables reads count (Find table attribute n) few fits lawful may there room =
    with_them reads tables table count (codes "find") (decimal table ∷ decimal attribute ∷ decimal n ∷ []) there
    ∙ ap (λ read. and_then read (λ p. one_more_if (is_search tables p.0 p.1 p.2) count (Find p.0 p.1 p.2)))
    (three_again table attribute n (omega (arith, few, there.at_most)) (omega (arith, lawful.0)) (omega (arith, lawful.1.at_most)))
    ∙ in_range_again (is_search tables table attribute n) count (Find table attribute n)
    (and_from (is_within 1 tables table) (nat_lt attribute attribute_limit && is_within 1 most_found n) (IsWithin-test 1 tables table there)
    (and_from (nat_lt attribute attribute_limit) (is_within 1 most_found n) (lt-ltb attribute attribute_limit lawful.0) (IsWithin-test 1 most_found n lawful.1))) room
