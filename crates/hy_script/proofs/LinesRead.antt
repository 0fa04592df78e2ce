-- From what a line was read as, to its words.
use Rattle.std.proofs.Common.{arith, zero, suc, refl, eqb-true, ltb-true, ◌≡◌, ◌==◌, ℕ, ◌+◌, ◌<◌, ◌≤◌, ◌^◌, ◌%◌, Bool, true, false, not, ◌&&◌, List, [], ◌∷◌, length, sym, ap, subst, ◌∙◌, if◌then◌else◌, nat_lt, nat_le}
use Rattle.std.specs.Fmt.{digits}
use Rattle.std.specs.Prelude.{Some, None, Ok, Err, is_ok, ok_or, bytes_eq, codes, decimal}
use Rattle.std.proofs.lemmas.Bool.{and_parts, eq-eqb, leb-true, ne_eqb, not-true}
use Rattle.std.proofs.lemmas.Slice.Eq.{bytes_eq-Decides}
use Rattle.hy_base.specs.declared.layout.Shape.{Shape}
use Rattle.hy_base.specs.declared.workload.Mode.{Mode}
use Rattle.hy_base.specs.declared.record.Isolation.TheVariants.{Serializable, Snapshot}
use Rattle.hy_base.specs.declared.workload.Client.{Client as ScriptClient}
use Rattle.hy_base.specs.declared.workload.Command.{Command}
use Rattle.hy_base.specs.declared.workload.Command.TheVariants.{Get, Put, Del, Add, Scan, Row, Unrow, Cell, Find}
use Rattle.hy_base.specs.Entry.{is_told}
use Rattle.hy_base.specs.Script.{Workload, FitsTables, IsCommand, IsReading, client_count, counts_as}
use Rattle.hy_base.specs.Tables.{attribute_limit, is_table_key, row_limit, text_limit}
use Rattle.hy_base.specs.Shape.{newest_version, shape_fault, IsWithin, IsGoodShape, is_within}
use Rattle.hy_base.specs.Spelling.{Text}
use Rattle.hy_base.specs.Value.{is_value}
use Rattle.hy_base.specs.Limits.{IsServerNumber, most_boards, most_clients_of_server, most_commands, most_found, most_programs, most_servers, most_tables}
use Rattle.hy_base.proofs.ShapeLemmas.{is_within-true}
use Rattle.hy_script.specs.Fields.{and_then, one_number, two_numbers, three_numbers, four_numbers, number_and_text, three_numbers_and_text, no_fields}
use Rattle.hy_script.specs.Grammar.{plain_mode, mode_at, is_position, is_row, is_row_text, is_row_with, is_search, last_program_count, may_tell_tables}
use Rattle.hy_script.specs.LineParts.{IsMode}
use Rattle.hy_base.proofs.NumberLemmas.{number_of_decimal}
use Rattle.hy_script.specs.ScriptLaws.{FitsFields, plain}
use Rattle.hy_script.specs.ScriptFields.{tables_fields, client_fields, begin_fields, one_more_program, listing_line, mode_fields, number_within, one_more, one_more_if, position_field, command_fields, program_line, put_fields, del_fields, add_fields, row_fields, unrow_fields, cell_fields, find_fields, scan_fields, writing_line, servers_fields, servers_line, servers_numbers, servers_within, as_shape, good_shape, shape_fields, shape_line, shape_numbers, told_by_three, told_by_four, told_with_horizon}
use Rattle.hy_script.specs.ScriptSpelling.{asked_fields, begin_words, command_words, servers_words, spelled_shape}
use Rattle.hy_script.specs.declared.script.ToldServers.{ToldServers}
use Rattle.hy_script.specs.declared.script.ToldShape.{ToldShape}
use Rattle.hy_script.specs.declared.script.ListingLine.{ListingLine}
use Rattle.hy_script.specs.declared.script.ListingLine.TheVariants.{Tables, Client, Begin, Schedule}
use Rattle.hy_script.specs.declared.script.ProgramLine.{ProgramLine}
use Rattle.hy_script.specs.declared.script.ProgramLine.TheVariants.{Next, End}
use Rattle.hy_script.specs.declared.why.Why.TheVariants.{Word, Form, Value, Range, Order, Count, Version}
use Rattle.hy_script.proofs.ShapeLines.{passes_good}
use Rattle.hy_script.proofs.FieldsRead.{and_then_was, branch, if_was, else_was, none_was, numbers_text_was, one_was, text_was, three_was, four_was, two_was, words_are}

-- the shape and the servers

pub record IsShapeLine (words : List Text) (shape : Shape) : Type 0 where
  pub are : plain words ≡ spelled_shape shape
  pub good : IsGoodShape shape

-- numbers as a shape's fields tell them: version 1 by no word
abbrev AreShapeNumbers : List Text → ToldShape → Type 0
AreShapeNumbers fields t = IsWithin 1 newest_version t.version → plain (codes "shape" ∷ fields) ≡ spelled_shape (as_shape t)

-- a version without a horizon
plain_version : (group window cap version : ℕ) → AreShapeNumbers (decimal group ∷ decimal window ∷ decimal cap ∷ decimal version ∷ []) (record { group = group; window = window; cap = cap; version = version; horizon = None })
unfolding digits
plain_version group window cap zero = λ within. absurd (omega (arith, within.at_least))
plain_version group window cap (suc zero) = λ within. refl
plain_version group window cap (suc (suc zero)) = λ within. refl
plain_version group window cap (suc (suc (suc zero))) = λ within. refl
plain_version group window cap (suc (suc (suc (suc n)))) = λ within. absurd (omega (arith, within.at_most))

plain_horizon : (group window cap horizon : ℕ)
    → AreShapeNumbers (decimal group ∷ decimal window ∷ decimal cap ∷ codes "3" ∷ decimal horizon ∷ []) (record { group = group; window = window; cap = cap; version = 3; horizon = Some horizon })
unfolding digits
plain_horizon group window cap horizon = λ within. refl

three_were : (fields : List Text) (t : ToldShape) → told_by_three fields ≡ Ok t → AreShapeNumbers fields t
three_were fields t e =
    let step = and_then_was {B = ToldShape} (three_numbers fields) (λ p. Ok (record { group = p.0; window = p.1; cap = p.2; version = 1; horizon = None })) t e in
    let told : ToldShape = record { group = step.0.0; window = step.0.1; cap = step.0.2; version = 1; horizon = None } in
    let same : told ≡ t = cc (step.2) in
    subst (AreShapeNumbers fields) same (λ within. ap (λ l. plain (codes "shape" ∷ l)) (three_was fields step.0 step.1).words)

four_were : (fields : List Text) (t : ToldShape) → told_by_four fields ≡ Ok t → AreShapeNumbers fields t
four_were fields t e =
    let step = and_then_was {B = ToldShape} (four_numbers fields) (λ p. Ok (record { group = p.0; window = p.1; cap = p.2; version = p.3; horizon = None })) t e in
    let told : ToldShape = record { group = step.0.0; window = step.0.1; cap = step.0.2; version = step.0.3; horizon = None } in
    let same : told ≡ t = cc (step.2) in
    subst (AreShapeNumbers fields) same (subst (λ l. AreShapeNumbers l told) (sym (four_was fields step.0 step.1).words) (plain_version step.0.0 step.0.1 step.0.2 step.0.3))

five_were : (a b c d e : Text) (t : ToldShape) → bytes_eq d (codes "3") ≡ true → told_with_horizon (a ∷ b ∷ c ∷ e ∷ []) ≡ Ok t → AreShapeNumbers (a ∷ b ∷ c ∷ d ∷ e ∷ []) t
five_were a b c d e t third read =
    let step = and_then_was {B = ToldShape} (four_numbers (a ∷ b ∷ c ∷ e ∷ [])) (λ p. Ok (record { group = p.0; window = p.1; cap = p.2; version = 3; horizon = Some p.3 })) t read in
    let told : ToldShape = record { group = step.0.0; window = step.0.1; cap = step.0.2; version = 3; horizon = Some step.0.3 } in
    let same : told ≡ t = cc (step.2) in
    let words : a ∷ b ∷ c ∷ d ∷ e ∷ [] ≡ decimal step.0.0 ∷ decimal step.0.1 ∷ decimal step.0.2 ∷ codes "3" ∷ decimal step.0.3 ∷ [] =
    cc ((four_was (a ∷ b ∷ c ∷ e ∷ []) step.0 step.1).words, (bytes_eq-Decides d (codes "3")).0 third) in
    subst (AreShapeNumbers (a ∷ b ∷ c ∷ d ∷ e ∷ [])) same (subst (λ l. AreShapeNumbers l told) (sym words) (plain_horizon step.0.0 step.0.1 step.0.2 step.0.3))

numbers_were : (fields : List Text) (t : ToldShape) → shape_numbers fields ≡ Ok t → AreShapeNumbers fields t
numbers_were [] t e = cc
numbers_were (a ∷ []) t e = cc
numbers_were (a ∷ b ∷ []) t e = cc
numbers_were (a ∷ b ∷ c ∷ []) t e = three_were (a ∷ b ∷ c ∷ []) t e
numbers_were (a ∷ b ∷ c ∷ d ∷ []) t e = four_were (a ∷ b ∷ c ∷ d ∷ []) t (else_was (bytes_eq d (codes "3")) (told_by_four (a ∷ b ∷ c ∷ d ∷ [])) Form t e).1
numbers_were (a ∷ b ∷ c ∷ d ∷ f ∷ []) t e =
    let third = if_was (bytes_eq d (codes "3")) (told_with_horizon (a ∷ b ∷ c ∷ f ∷ [])) Form t e in five_were a b c d f t third.0 third.1
numbers_were (a ∷ b ∷ c ∷ d ∷ f ∷ g ∷ rest) t e = cc

-- what is made where a test is met
made_was : {A : Type 0} (t : Bool) (a b : A) → ok_or (if t then Some a else None) Range ≡ Ok b → (t ≡ true) × (a ≡ b)
made_was true a b e = (refl, cc e)
made_was false a b e = cc

pub shape_was : (words : List Text) (shape : Shape) → shape_line words ≡ Ok shape → IsShapeLine words shape
shape_was [] shape e = cc
shape_was (word ∷ fields) shape e =
    let named = if_was (bytes_eq word (codes "shape")) (shape_fields fields) Word shape e in
    let read = and_then_was (shape_numbers fields) (λ t. ok_or (good_shape t) Range) shape named.1 in
    let tested = made_was (is_ok (shape_fault (as_shape read.0))) (as_shape read.0) shape read.2 in
    let good = passes_good (as_shape read.0) tested.0 in
    subst (IsShapeLine (word ∷ fields)) tested.1
    (record { are = ap plain (words_are word (codes "shape") fields fields named.0 refl) ∙ numbers_were fields read.0 read.1 good.version; good = good })

pub number_within_was : (low high : ℕ) (fields : List Text) (n : ℕ) → number_within low high fields ≡ Ok n → (fields ≡ decimal n ∷ []) × IsWithin low high n
number_within_was low high fields n e =
    let read = and_then_was (one_number fields) (λ m. if is_within low high m then Ok m else Err Range) n e in
    let tested = if_was (is_within low high read.0) (Ok read.0) Range n read.2 in
    let same : read.0 ≡ n = cc (tested.1) in
    (subst (λ k. fields ≡ decimal k ∷ []) same (one_was fields read.0 read.1).0, subst (IsWithin low high) same (is_within-true low high read.0 tested.0))

pub record IsServersLine (words : List Text) (told : ToldServers) : Type 0 where
  pub are : plain words ≡ servers_words told.servers told.keeps
  pub servers : IsServerNumber told.servers
  pub keeps : IsWithin 1 most_boards told.keeps

-- a number is spelled 1 where it is 1
one_spelled : (t : Bool) (keeps : ℕ) → keeps < 2 ^ 64 → bytes_eq (decimal keeps) (codes "1") ≡ t → (keeps == 1) ≡ t
unfolding digits
one_spelled true keeps small e =
    let spelled = number_of_decimal (decimal keeps) keeps small refl in
    let one = number_of_decimal (codes "1") 1 (omega arith) refl in
    let same : keeps ≡ 1 = cc (spelled, one, (bytes_eq-Decides (decimal keeps) (codes "1")).0 e) in
    eq-eqb keeps 1 same
one_spelled false keeps small e = ne_eqb keeps 1 (λ is. cc (subst (λ k. bytes_eq (decimal k) (codes "1") ≡ false) is e))

-- one board is told by no number
two_plain : (servers keeps : ℕ) → keeps < 2 ^ 64 → plain (codes "servers" ∷ decimal servers ∷ decimal keeps ∷ []) ≡ servers_words servers keeps
two_plain servers keeps small = by (keeps == 1) (bytes_eq (decimal keeps) (codes "1")) (one_spelled (bytes_eq (decimal keeps) (codes "1")) keeps small refl) where
  by : (t u : Bool) → t ≡ u → (if u then codes "servers" ∷ decimal servers ∷ [] else codes "servers" ∷ decimal servers ∷ decimal keeps ∷ []) ≡ codes "servers" ∷ decimal servers ∷ (if t then [] else decimal keeps ∷ [])
  by true true e = refl
  by true false e = cc
  by false true e = cc
  by false false e = refl

servers_numbers_were : (fields : List Text) (p : ℕ × ℕ) → servers_numbers fields ≡ Ok p → plain (codes "servers" ∷ fields) ≡ servers_words p.0 p.1
servers_numbers_were [] p e = cc
servers_numbers_were (a ∷ []) p e =
    let step = and_then_was {B = ℕ × ℕ} (one_number (a ∷ [])) (λ n. Ok (n, 1)) p e in
    let pair : ℕ × ℕ = (step.0, 1) in
    let same : pair ≡ p = cc (step.2) in
    subst {A = ℕ × ℕ} (λ q. plain (codes "servers" ∷ a ∷ []) ≡ servers_words q.0 q.1) same (ap (λ l. codes "servers" ∷ l) (one_was (a ∷ []) step.0 step.1).0)
servers_numbers_were (a ∷ b ∷ []) p e = let were = two_was (a ∷ b ∷ []) p e in ap (λ l. plain (codes "servers" ∷ l)) were.words ∙ two_plain p.0 p.1 were.second
servers_numbers_were (a ∷ b ∷ c ∷ rest) p e = cc

pub servers_was : (words : List Text) (told : ToldServers) → servers_line words ≡ Ok told → IsServersLine words told
servers_was [] told e = cc
servers_was (word ∷ fields) told e =
    let named = if_was (bytes_eq word (codes "servers")) (servers_fields fields) Word told e in
    let step = and_then_was (servers_numbers fields) servers_within told named.1 in
    let p = step.0 in
    let made : ToldServers = record { servers = p.0; keeps = p.1 } in
    let tested = if_was (is_within 1 most_servers p.0 && is_within 1 most_boards p.1) (Ok made) Range told step.2 in
    let same : made ≡ told = cc (tested.1) in
    let parts = and_parts (is_within 1 most_servers p.0) (is_within 1 most_boards p.1) tested.0 in
    subst (IsServersLine (word ∷ fields)) same (record {
      are = ap plain (words_are word (codes "servers") fields fields named.0 refl) ∙ servers_numbers_were fields p step.1;
      servers = is_within-true 1 most_servers p.0 parts.0;
      keeps = is_within-true 1 most_boards p.1 parts.1;
    })

-- between programs

abbrev pub IsListingLine : Workload → List Text → ListingLine → Type 0
IsListingLine script words (Tables tables) = (words ≡ codes "tables" ∷ decimal tables ∷ []) × IsWithin 1 most_tables tables × (script.tables ≡ 0) × (script.clients ≡ [])
IsListingLine script words (Client server) = (words ≡ codes "client" ∷ decimal server ∷ []) × IsWithin 1 script.servers server × (client_count script.clients server < most_clients_of_server)
IsListingLine script words (Begin mode) =
    (words ≡ begin_words mode) × (0 < length script.clients) × (last_program_count script.clients < most_programs) × (is_told script.shape.version mode.isolation ≡ true) × IsMode script.shape mode
IsListingLine script words Schedule = words ≡ codes "schedule" ∷ []

none_left : (clients : List ScriptClient) → length clients ≡ 0 → clients ≡ []
none_left [] none = refl
none_left (c ∷ clients) none = absurd (omega (arith, none))

tables_was : (script : Workload) (word : Text) (fields : List Text) (read : ListingLine) → may_tell_tables script ≡ true → bytes_eq word (codes "tables") ≡ true → tables_fields fields ≡ Ok read → IsListingLine script (word ∷ fields) read
tables_was script word fields read may named e =
    let step = and_then_was (number_within 1 most_tables fields) (λ tables. Ok (Tables tables)) read e in
    let same : Tables step.0 ≡ read = cc (step.2) in
    let was = number_within_was 1 most_tables fields step.0 step.1 in
    let parts = and_parts (script.tables == 0) (length script.clients == 0) may in
    subst (IsListingLine script (word ∷ fields)) same
    (words_are word (codes "tables") fields _ named was.0, was.1, eqb-true script.tables 0 parts.0, none_left script.clients (eqb-true (length script.clients) 0 parts.1))

client_was : (script : Workload) (word : Text) (fields : List Text) (read : ListingLine) → bytes_eq word (codes "client") ≡ true → client_fields script fields ≡ Ok read → IsListingLine script (word ∷ fields) read
client_was script word fields read named e =
    let step = and_then_was (number_within 1 script.servers fields) (λ server. if nat_lt (client_count script.clients server) most_clients_of_server then Ok (Client server) else Err Count) read e in
    let tested = if_was (nat_lt (client_count script.clients step.0) most_clients_of_server) (Ok (Client step.0)) Count read step.2 in
    let same : Client step.0 ≡ read = cc (tested.1) in
    let was = number_within_was 1 script.servers fields step.0 step.1 in
    subst (IsListingLine script (word ∷ fields)) same (words_are word (codes "client") fields _ named was.0, was.1, ltb-true (client_count script.clients step.0) most_clients_of_server tested.0)

-- the fields are those of what is asked for, and that may be asked for
abbrev AreModeFields : Shape → List Text → Mode → Type 0
AreModeFields shape fields mode = (fields ≡ asked_fields mode.isolation mode.as_of) × IsMode shape mode

position_was : (shape : Shape) (a b : Text) (mode : Mode) → bytes_eq a (codes "at") ≡ true → position_field shape (b ∷ []) ≡ Ok mode → AreModeFields shape (a ∷ b ∷ []) mode
position_was shape a b mode named e =
    let step = and_then_was (one_number (b ∷ [])) (λ pos. if is_position shape pos then Ok (mode_at pos) else Err Range) mode e in
    let pos = step.0 in
    let tested = if_was (is_position shape pos) (Ok (mode_at pos)) Range mode step.2 in
    let same : mode_at pos ≡ mode = cc (tested.1) in
    let parts = and_parts (pos % shape.group == 0) (nat_le pos shape.cap) tested.0 in
    let was = one_was (b ∷ []) pos step.1 in
    subst (AreModeFields shape (a ∷ b ∷ [])) same (words_are a (codes "at") (b ∷ []) _ named was.0, ((eqb-true (pos % shape.group) 0 parts.0, leb-true pos shape.cap parts.1), λ asks. refl))

mode_was : (shape : Shape) (fields : List Text) (mode : Mode) → mode_fields shape fields ≡ Ok mode → AreModeFields shape fields mode
mode_was shape [] mode e =
    let same : plain_mode Serializable ≡ mode = cc (e) in subst (AreModeFields shape []) same (refl, (tt, λ asks. refl))
mode_was shape (a ∷ []) mode e =
    let was = if_was (bytes_eq a (codes "snapshot")) (Ok (plain_mode Snapshot)) Form mode e in
    let same : plain_mode Snapshot ≡ mode = cc (was.1) in
    subst (AreModeFields shape (a ∷ [])) same (ap (λ w. w ∷ []) ((bytes_eq-Decides a (codes "snapshot")).0 was.0), (tt, λ asks. cc))
mode_was shape (a ∷ b ∷ []) mode e =
    let was = if_was (bytes_eq a (codes "at")) (position_field shape (b ∷ [])) Form mode e in position_was shape a b mode was.0 was.1
mode_was shape (a ∷ b ∷ c ∷ rest) mode e = cc

begin_was : (script : Workload) (word : Text) (fields : List Text) (read : ListingLine) → bytes_eq word (codes "begin") ≡ true → 0 < length script.clients → begin_fields script fields ≡ Ok read
    → IsListingLine script (word ∷ fields) read
begin_was script word fields read named some e =
    let step = and_then_was (mode_fields script.shape fields) (one_more_program script.shape.version (last_program_count script.clients)) read e in
    let mode = step.0 in
    let tested = if_was (nat_lt (last_program_count script.clients) most_programs) (if is_told script.shape.version mode.isolation then Ok (Begin mode) else Err Version) Count read step.2 in
    let told = if_was (is_told script.shape.version mode.isolation) (Ok (Begin mode)) Version read tested.1 in
    let same : Begin mode ≡ read = cc (told.1) in
    let was = mode_was script.shape fields mode step.1 in
    subst (IsListingLine script (word ∷ fields)) same
    (words_are word (codes "begin") fields _ named was.0, some, ltb-true (last_program_count script.clients) most_programs tested.0, told.0, was.1)

schedule_was : (script : Workload) (word : Text) (fields : List Text) (read : ListingLine) → bytes_eq word (codes "schedule") ≡ true → and_then (no_fields fields) (λ u. Ok Schedule) ≡ Ok read
    → IsListingLine script (word ∷ fields) read
schedule_was script word fields read named e =
    let step = and_then_was (no_fields fields) (λ u. Ok Schedule) read e in
    let same : Schedule ≡ read = cc (step.2) in
    subst (IsListingLine script (word ∷ fields)) same (words_are word (codes "schedule") fields _ named (none_was fields step.0 step.1))

pub listing_was : (sim : Bool) (script : Workload) (words : List Text) (read : ListingLine) → listing_line sim script words ≡ Ok read → IsListingLine script words read
listing_was sim script [] read e = cc
listing_was sim script (word ∷ fields) read e =
    branch (bytes_eq word (codes "client")) _ _ read e (λ named x. client_was script word fields read named x)
    (λ named x. branch (may_tell_tables script && bytes_eq word (codes "tables")) _ _ read x
    (λ both y. let parts = and_parts (may_tell_tables script) (bytes_eq word (codes "tables")) both in tables_was script word fields read parts.0 parts.1 y)
    (λ a x. branch (nat_lt 0 (length script.clients) && bytes_eq word (codes "begin")) _ _ read x
    (λ both y. let parts = and_parts (nat_lt 0 (length script.clients)) (bytes_eq word (codes "begin")) both in begin_was script word fields read parts.1 (ltb-true 0 (length script.clients) parts.0) y)
    (λ b y.
    let last = if_was (sim && bytes_eq word (codes "schedule")) (and_then (no_fields fields) (λ u. Ok Schedule)) Word read y in
    schedule_was script word fields read (and_parts sim (bytes_eq word (codes "schedule")) last.0).1 last.1)))

-- in a program

-- a command that may stand there, since it reads or the program may write
pub record IsNextLine (tables : ℕ) (reads : Bool) (count : ℕ) (words : List Text) (command : Command) : Type 0 where
  pub are : words ≡ command_words command
  pub fits : FitsFields command
  pub lawful : IsCommand command
  pub may : reads ≡ true → IsReading command
  pub fits_tables : FitsTables tables command
  pub room : count + counts_as command ≤ most_commands

abbrev pub IsProgramLine : ℕ → Bool → ℕ → List Text → ProgramLine → Type 0
IsProgramLine tables reads count words (Next command) = IsNextLine tables reads count words command
IsProgramLine tables reads count words End = words ≡ codes "end" ∷ []

module _ (tables : ℕ) (reads : Bool) (count : ℕ) (word : Text) (fields : List Text) (read : ProgramLine) where
  -- what a line of these words was read as
  abbrev WasRead : Type 0
  WasRead = IsProgramLine tables reads count (word ∷ fields) read

  next_was : (command : Command) → one_more count command ≡ Ok read → word ∷ fields ≡ command_words command → FitsFields command → IsCommand command → (reads ≡ true → IsReading command) → FitsTables tables command → WasRead
  next_was command e same fits lawful may in_tables =
      let tested = if_was (nat_le (count + counts_as command) most_commands) (Ok (Next command)) Count read e in
      let is : Next command ≡ read = cc (tested.1) in
      subst (IsProgramLine tables reads count (word ∷ fields)) is
      (record { are = same; fits = fits; lawful = lawful; may = may; fits_tables = in_tables; room = leb-true (count + counts_as command) most_commands tested.0 })

  get_was : bytes_eq word (codes "get") ≡ true → and_then (one_number fields) (λ key. one_more count (Get key)) ≡ Ok read → WasRead
  get_was named e =
      let step = and_then_was (one_number fields) (λ key. one_more count (Get key)) read e in
      let was = one_was fields step.0 step.1 in
      next_was (Get step.0) step.2 (words_are word (codes "get") fields _ named was.0) was.1 tt (λ asks. tt) tt

  scan_was : bytes_eq word (codes "scan") ≡ true → and_then (scan_fields fields) (one_more count) ≡ Ok read → WasRead
  scan_was named e =
      let step = and_then_was (scan_fields fields) (one_more count) read e in
      let scan = and_then_was (three_numbers fields) (λ p. if is_within 1 most_found p.2 then (if nat_le p.0 p.1 then Ok (Scan p.0 p.1 p.2) else Err Order) else Err Range) step.0 step.1 in
      let p = scan.0 in
      let was = three_was fields p scan.1 in
      let ranged = if_was (is_within 1 most_found p.2) (if nat_le p.0 p.1 then Ok (Scan p.0 p.1 p.2) else Err Order) Range step.0 scan.2 in
      let ordered = if_was (nat_le p.0 p.1) (Ok (Scan p.0 p.1 p.2)) Order step.0 ranged.1 in
      let is : step.0 ≡ Scan p.0 p.1 p.2 = cc (ordered.1) in
      next_was (Scan p.0 p.1 p.2) (ap (one_more count) (sym is) ∙ step.2) (words_are word (codes "scan") fields _ named was.words) was.second
      (leb-true p.0 p.1 ordered.0, is_within-true 1 most_found p.2 ranged.0) (λ asks. tt) tt

  end_was : bytes_eq word (codes "end") ≡ true → and_then (no_fields fields) (λ u. Ok End) ≡ Ok read → WasRead
  end_was named e =
      let step = and_then_was (no_fields fields) (λ u. Ok End) read e in
      let same : End ≡ read = cc (step.2) in
      subst (IsProgramLine tables reads count (word ∷ fields)) same (words_are word (codes "end") fields _ named (none_was fields step.0 step.1))

  -- a row of one of the tables
  row_in : (table row : ℕ) → is_row tables table row ≡ true → IsWithin 1 tables table × (row < row_limit)
  row_in table row e = let parts = and_parts (is_within 1 tables table) (nat_lt row row_limit) e in (is_within-true 1 tables table parts.0, ltb-true row row_limit parts.1)

  cell_was : bytes_eq word (codes "cell") ≡ true → cell_fields tables count fields ≡ Ok read → WasRead
  cell_was named e =
      let step = and_then_was (two_numbers fields) (λ p. one_more_if (is_row tables p.0 p.1) count (Cell p.0 p.1)) read e in
      let p = step.0 in
      let tested = if_was (is_row tables p.0 p.1) (one_more count (Cell p.0 p.1)) Range read step.2 in
      let there = row_in p.0 p.1 tested.0 in
      next_was (Cell p.0 p.1) tested.1 (words_are word (codes "cell") fields _ named (two_was fields p step.1).words) tt there.1 (λ asks. tt) there.0

  find_was : bytes_eq word (codes "find") ≡ true → find_fields tables count fields ≡ Ok read → WasRead
  find_was named e =
      let step = and_then_was (three_numbers fields) (λ p. one_more_if (is_search tables p.0 p.1 p.2) count (Find p.0 p.1 p.2)) read e in
      let p = step.0 in
      let tested = if_was (is_search tables p.0 p.1 p.2) (one_more count (Find p.0 p.1 p.2)) Range read step.2 in
      let table = and_parts (is_within 1 tables p.0) (nat_lt p.1 attribute_limit && is_within 1 most_found p.2) tested.0 in
      let others = and_parts (nat_lt p.1 attribute_limit) (is_within 1 most_found p.2) table.1 in
      next_was (Find p.0 p.1 p.2) tested.1 (words_are word (codes "find") fields _ named (three_was fields p step.1).words) tt
      (ltb-true p.1 attribute_limit others.0, is_within-true 1 most_found p.2 others.1) (λ asks. tt) (is_within-true 1 tables p.0 table.0)

  -- a command that writes stands only where the program doesn't only read
  writes : {A : Type 0} → reads ≡ false → reads ≡ true → A
  writes plainly asks = absurd (cc (plainly, asks))

  del_was : reads ≡ false → bytes_eq word (codes "del") ≡ true → del_fields tables count fields ≡ Ok read → WasRead
  del_was may named e =
      let step = and_then_was (one_number fields) (λ key. one_more_if (not (is_table_key tables key)) count (Del key)) read e in
      let was = one_was fields step.0 step.1 in
      let tested = if_was (not (is_table_key tables step.0)) (one_more count (Del step.0)) Range read step.2 in
      next_was (Del step.0) tested.1 (words_are word (codes "del") fields _ named was.0) was.1 tt (writes may) (not-true (is_table_key tables step.0) tested.0)

  add_was : reads ≡ false → bytes_eq word (codes "add") ≡ true → add_fields tables count fields ≡ Ok read → WasRead
  add_was may named e =
      let step = and_then_was (two_numbers fields) (λ p. one_more_if (not (is_table_key tables p.0)) count (Add p.0 p.1)) read e in
      let p = step.0 in
      let was = two_was fields p step.1 in
      let tested = if_was (not (is_table_key tables p.0)) (one_more count (Add p.0 p.1)) Range read step.2 in
      next_was (Add p.0 p.1) tested.1 (words_are word (codes "add") fields _ named was.words) (was.first, was.second) tt (writes may) (not-true (is_table_key tables p.0) tested.0)

  put_was : reads ≡ false → bytes_eq word (codes "put") ≡ true → put_fields tables count fields ≡ Ok read → WasRead
  put_was may named e =
      let step = and_then_was (number_and_text fields) (λ p. if is_value p.1 then one_more_if (not (is_table_key tables p.0)) count (Put p.0 p.1) else Err Value) read e in
      let p = step.0 in
      let was = text_was fields p step.1 in
      let valued = if_was (is_value p.1) (one_more_if (not (is_table_key tables p.0)) count (Put p.0 p.1)) Value read step.2 in
      let tested = if_was (not (is_table_key tables p.0)) (one_more count (Put p.0 p.1)) Range read valued.1 in
      next_was (Put p.0 p.1) tested.1 (words_are word (codes "put") fields _ named was.0) was.1 valued.0 (writes may) (not-true (is_table_key tables p.0) tested.0)

  row_was : reads ≡ false → bytes_eq word (codes "row") ≡ true → row_fields tables count fields ≡ Ok read → WasRead
  row_was may named e =
      let step = and_then_was (three_numbers_and_text fields) (λ p. if is_row_text p.3 then one_more_if (is_row_with tables p.0 p.1 p.2) count (Row p.0 p.1 p.2 p.3) else Err Value) read e in
      let p = step.0 in
      let valued = if_was (is_row_text p.3) (one_more_if (is_row_with tables p.0 p.1 p.2) count (Row p.0 p.1 p.2 p.3)) Value read step.2 in
      let tested = if_was (is_row_with tables p.0 p.1 p.2) (one_more count (Row p.0 p.1 p.2 p.3)) Range read valued.1 in
      let text = and_parts (is_value p.3) (nat_le (length p.3) text_limit) valued.0 in
      let parts = and_parts (is_row tables p.0 p.1) (nat_lt p.2 attribute_limit) tested.0 in
      let there = row_in p.0 p.1 parts.0 in
      next_was (Row p.0 p.1 p.2 p.3) tested.1 (words_are word (codes "row") fields _ named (numbers_text_was fields p step.1).words) tt
      (there.1, ltb-true p.2 attribute_limit parts.1, record { value = text.0; short = leb-true (length p.3) text_limit text.1 }) (writes may) there.0

  unrow_was : reads ≡ false → bytes_eq word (codes "unrow") ≡ true → unrow_fields tables count fields ≡ Ok read → WasRead
  unrow_was may named e =
      let step = and_then_was (two_numbers fields) (λ p. one_more_if (is_row tables p.0 p.1) count (Unrow p.0 p.1)) read e in
      let p = step.0 in
      let tested = if_was (is_row tables p.0 p.1) (one_more count (Unrow p.0 p.1)) Range read step.2 in
      let there = row_in p.0 p.1 tested.0 in
      next_was (Unrow p.0 p.1) tested.1 (words_are word (codes "unrow") fields _ named (two_was fields p step.1).words) tt there.1 (writes may) there.0

  module _ (has_tables : Bool) where
    writing_by : reads ≡ false → writing_line has_tables tables count word fields ≡ Ok read → WasRead
    writing_by may e =
        branch (bytes_eq word (codes "put")) _ _ read e (put_was may)
        (λ a f. branch (bytes_eq word (codes "del")) _ _ read f (del_was may)
        (λ b g. branch (bytes_eq word (codes "add")) _ _ read g (add_was may)
        (λ c h. branch (has_tables && bytes_eq word (codes "row")) _ _ read h (λ both x. row_was may (and_parts has_tables (bytes_eq word (codes "row")) both).1 x)
        (λ d x. let last = if_was (has_tables && bytes_eq word (codes "unrow")) (unrow_fields tables count fields) Word read x in
        unrow_was may (and_parts has_tables (bytes_eq word (codes "unrow")) last.0).1 last.1))))

    program_by : command_fields has_tables reads tables count word fields ≡ Ok read → WasRead
    program_by e =
        branch (bytes_eq word (codes "get")) _ _ read e get_was
        (λ a f. branch (bytes_eq word (codes "scan")) _ _ read f scan_was
        (λ b g. branch (bytes_eq word (codes "end")) _ _ read g end_was
        (λ c h. branch (has_tables && bytes_eq word (codes "cell")) _ _ read h (λ both x. cell_was (and_parts has_tables (bytes_eq word (codes "cell")) both).1 x)
        (λ d i. branch (has_tables && bytes_eq word (codes "find")) _ _ read i (λ both x. find_was (and_parts has_tables (bytes_eq word (codes "find")) both).1 x)
        (λ j k. let last = else_was reads (writing_line has_tables tables count word fields) Word read k in writing_by last.0 last.1)))))

pub program_was : (tables : ℕ) (reads : Bool) (count : ℕ) (words : List Text) (read : ProgramLine) → program_line tables reads count words ≡ Ok read → IsProgramLine tables reads count words read
program_was tables reads count [] read e = cc
program_was tables reads count (word ∷ fields) read e = program_by tables reads count word fields read (nat_lt 0 tables) e
