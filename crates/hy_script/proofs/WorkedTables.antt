-- Lines of scripts with tables, read.
use Rattle.std.proofs.Common.{◌≡◌, ℕ, false, List, [], ◌∷◌, ◌++◌, refl}
use Rattle.std.specs.Fmt.{digits}
use Rattle.std.specs.Prelude.{None, Ok, Err, codes, replicate}
use Rattle.hy_base.specs.declared.layout.Shape.{Shape}
use Rattle.hy_base.specs.declared.workload.Client.{Client}
use Rattle.hy_base.specs.declared.workload.Command.{Command}
use Rattle.hy_base.specs.declared.workload.Command.TheVariants.{Get, Put, Del, Row, Unrow, Cell, Find}
use Rattle.hy_base.specs.declared.record.Isolation.TheVariants.{Serializable}
use Rattle.hy_base.specs.declared.workload.Program.{Program}
use Rattle.hy_base.specs.Script.{Workload}
use Rattle.hy_script.specs.Grammar.{Shaped, Listing, Programming, mode_at, begun, gains_command}
use Rattle.hy_script.specs.ScriptReading.{place_after}
use Rattle.hy_script.specs.declared.why.Why.TheVariants.{Word, Form, Number, Value, Range, Count}

abbrev singles : Shape
singles = record { group = 1; window = 1; cap = 8; version = 1; horizon = None }

abbrev tabled : ℕ → List Client → Workload
tabled tables clients = record { shape = singles; servers = 1; keeps = 1; tables = tables; clients = clients }

abbrev client : Client
client = record { server = 1; programs = [] }

-- how many tables there are

one_table : place_after false (Listing (tabled 0 [])) (3, codes "tables 1") ≡ Ok (Listing (tabled 1 []))
unfolding digits
one_table = refl

takes_255_tables : place_after false (Listing (tabled 0 [])) (3, codes "tables 255") ≡ Ok (Listing (tabled 255 []))
unfolding digits
takes_255_tables = refl

no_table : place_after false (Listing (tabled 0 [])) (3, codes "tables 0") ≡ Err Range
unfolding digits
no_table = refl

too_many_tables : place_after false (Listing (tabled 0 [])) (3, codes "tables 256") ≡ Err Range
unfolding digits
too_many_tables = refl

tables_of_no_number : place_after false (Listing (tabled 0 [])) (3, codes "tables 01") ≡ Err Number
unfolding digits
tables_of_no_number = refl

tables_alone : place_after false (Listing (tabled 0 [])) (3, codes "tables") ≡ Err Form
tables_alone = refl

tables_again : place_after false (Listing (tabled 1 [])) (4, codes "tables 1") ≡ Err Word
tables_again = refl

tables_late : place_after false (Listing (tabled 0 (client ∷ []))) (4, codes "tables 1") ≡ Err Word
tables_late = refl

tables_early : place_after false (Shaped singles) (2, codes "tables 1") ≡ Err Word
tables_early = refl

-- a program with so many tables, and these commands
abbrev plain : List Command → Program
plain commands = record { isolation = Serializable; as_of = None; commands = commands }

abbrev listed : ℕ → Workload
listed tables = tabled tables (client ∷ [])

-- without tables their commands are no words

row_without_tables : place_after false (Programming (listed 0) (plain [])) (5, codes "row 1 5 7 x") ≡ Err Word
row_without_tables = refl

unrow_without_tables : place_after false (Programming (listed 0) (plain [])) (5, codes "unrow 1 5") ≡ Err Word
unrow_without_tables = refl

cell_without_tables : place_after false (Programming (listed 0) (plain [])) (5, codes "cell 1 5") ≡ Err Word
cell_without_tables = refl

find_without_tables : place_after false (Programming (listed 0) (plain [])) (5, codes "find 1 7 10") ≡ Err Word
find_without_tables = refl

-- with one

a_row : place_after false (Programming (listed 1) (plain [])) (5, codes "row 1 16777215 2147483647 x") ≡ Ok (Programming (listed 1) (plain (Row 1 16777215 2147483647 (codes "x") ∷ [])))
unfolding digits
a_row = refl

an_unrow : place_after false (Programming (listed 1) (plain [])) (5, codes "unrow 1 0") ≡ Ok (Programming (listed 1) (plain (Unrow 1 0 ∷ [])))
unfolding digits
an_unrow = refl

a_cell : place_after false (Programming (listed 1) (plain [])) (5, codes "cell 1 5") ≡ Ok (Programming (listed 1) (plain (Cell 1 5 ∷ [])))
unfolding digits
a_cell = refl

a_find : place_after false (Programming (listed 1) (plain [])) (5, codes "find 1 7 1000") ≡ Ok (Programming (listed 1) (plain (Find 1 7 1000 ∷ [])))
unfolding digits
a_find = refl

row_past_the_last : place_after false (Programming (listed 1) (plain [])) (5, codes "row 1 16777216 0 a") ≡ Err Range
unfolding digits
row_past_the_last = refl

attribute_past_the_last : place_after false (Programming (listed 1) (plain [])) (5, codes "row 1 0 2147483648 a") ≡ Err Range
unfolding digits
attribute_past_the_last = refl

table_past_the_last : place_after false (Programming (listed 1) (plain [])) (5, codes "row 2 0 0 a") ≡ Err Range
unfolding digits
table_past_the_last = refl

table_before_the_first : place_after false (Programming (listed 1) (plain [])) (5, codes "cell 0 0") ≡ Err Range
unfolding digits
table_before_the_first = refl

finds_none : place_after false (Programming (listed 1) (plain [])) (5, codes "find 1 0 0") ≡ Err Range
unfolding digits
finds_none = refl

finds_too_many : place_after false (Programming (listed 1) (plain [])) (5, codes "find 1 0 1001") ≡ Err Range
unfolding digits
finds_too_many = refl

row_without_text : place_after false (Programming (listed 1) (plain [])) (5, codes "row 1 5 7") ≡ Err Form
row_without_text = refl

row_of_two_texts : place_after false (Programming (listed 1) (plain [])) (5, codes "row 1 5 7 a b") ≡ Err Form
row_of_two_texts = refl

row_of_no_number : place_after false (Programming (listed 1) (plain [])) (5, codes "row 1 5 07 x") ≡ Err Number
unfolding digits
row_of_no_number = refl

-- a text has 200 bytes at most; that is looked at before the numbers' ranges

longest_text : place_after false (Programming (listed 1) (plain [])) (5, codes "row 1 5 7 " ++ replicate 200 97) ≡ Ok (Programming (listed 1) (plain (Row 1 5 7 (replicate 200 97) ∷ [])))
unfolding digits
longest_text = refl

too_long_a_text : place_after false (Programming (listed 1) (plain [])) (5, codes "row 2 5 7 " ++ replicate 201 97) ≡ Err Value
unfolding digits
too_long_a_text = refl

-- the keys of tables are left to their commands

below_the_tables : place_after false (Programming (listed 1) (plain [])) (5, codes "del 72057594037927935") ≡ Ok (Programming (listed 1) (plain (Del 72057594037927935 ∷ [])))
unfolding digits
below_the_tables = refl

puts_to_a_table : place_after false (Programming (listed 1) (plain [])) (5, codes "put 72057594037927936 a") ≡ Err Range
unfolding digits
puts_to_a_table = refl

deletes_the_last_of_a_table : place_after false (Programming (listed 1) (plain [])) (5, codes "del 144115188075855871") ≡ Err Range
unfolding digits
deletes_the_last_of_a_table = refl

above_the_tables : place_after false (Programming (listed 1) (plain [])) (5, codes "del 144115188075855872") ≡ Ok (Programming (listed 1) (plain (Del 144115188075855872 ∷ [])))
unfolding digits
above_the_tables = refl

adds_to_a_table : place_after false (Programming (listed 255) (plain [])) (5, codes "add 18446744073709551615 1") ≡ Err Range
unfolding digits
adds_to_a_table = refl

gets_of_a_table : place_after false (Programming (listed 1) (plain [])) (5, codes "get 72057594037927936") ≡ Ok (Programming (listed 1) (plain (Get 72057594037927936 ∷ [])))
unfolding digits
gets_of_a_table = refl

puts_without_tables : place_after false (Programming (listed 0) (plain [])) (5, codes "put 72057594037927936 a") ≡ Ok (Programming (listed 0) (plain (Put 72057594037927936 (codes "a") ∷ [])))
unfolding digits
puts_without_tables = refl

-- a row counts as three commands, its deletion as two

abbrev puts : ℕ → List Command
puts n = replicate n (Put 1 (codes "a"))

one_row_too_many : place_after false (Programming (listed 1) (plain (puts 62))) (67, codes "row 1 5 7 x") ≡ Err Count
unfolding digits
one_row_too_many = refl

the_last_row : place_after false (Programming (listed 1) (plain (puts 61))) (66, codes "row 1 5 7 x") ≡ Ok (Programming (listed 1) (plain (puts 61 ++ Row 1 5 7 (codes "x") ∷ [])))
unfolding digits
the_last_row = refl

one_unrow_too_many : place_after false (Programming (listed 1) (plain (puts 63))) (68, codes "unrow 1 5") ≡ Err Count
unfolding digits
one_unrow_too_many = refl

the_last_cell : place_after false (Programming (listed 1) (plain (puts 63))) (68, codes "cell 1 5") ≡ Ok (Programming (listed 1) (plain (puts 63 ++ Cell 1 5 ∷ [])))
unfolding digits
the_last_cell = refl

range_before_count : place_after false (Programming (listed 1) (plain (puts 64))) (69, codes "row 2 5 7 x") ≡ Err Range
unfolding digits
range_before_count = refl

-- a program that asks for a position only reads

abbrev asking : Program
asking = begun (mode_at 4)

asks_for_a_cell : place_after false (Programming (listed 1) asking) (5, codes "cell 1 5") ≡ Ok (Programming (listed 1) (gains_command (Cell 1 5) asking))
unfolding digits
asks_for_a_cell = refl

asks_for_rows : place_after false (Programming (listed 1) asking) (5, codes "find 1 7 10") ≡ Ok (Programming (listed 1) (gains_command (Find 1 7 10) asking))
unfolding digits
asks_for_rows = refl

asks_to_write_a_row : place_after false (Programming (listed 1) asking) (5, codes "row 1 5 7 x") ≡ Err Word
asks_to_write_a_row = refl

asks_to_delete_a_row : place_after false (Programming (listed 1) asking) (5, codes "unrow 1 5") ≡ Err Word
asks_to_delete_a_row = refl
