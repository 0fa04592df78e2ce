-- Lines of servers that keep boards, and of programs that ask for a position, read.
use Rattle.std.proofs.Common.{arith, ltb-true, ◌≡◌, ◌==◌, ℕ, true, false, List, [], ◌∷◌, length, nat_lt, refl}
use Rattle.std.specs.Fmt.{digits}
use Rattle.std.specs.Prelude.{None, Ok, Err, codes}
use Rattle.std.proofs.lemmas.Bool.{ne_eqb}
use Rattle.hy_base.specs.declared.layout.Shape.{Shape}
use Rattle.hy_base.specs.declared.workload.Client.{Client}
use Rattle.hy_base.specs.declared.workload.Command.TheVariants.{Get, Scan}
use Rattle.hy_base.specs.declared.workload.Program.{Program}
use Rattle.hy_base.specs.Script.{Workload}
use Rattle.hy_script.specs.Grammar.{Shaped, Listing, Programming, mode_at, begun, gains_command, last_program_count, with_program}
use Rattle.hy_script.specs.ScriptReading.{place_after}
use Rattle.hy_script.specs.declared.why.Why.TheVariants.{Word, Form, Number, Range, Order, Count}

abbrev pairs : Shape
pairs = record { group = 2; window = 1; cap = 8; version = 1; horizon = None }

abbrev keeping : ℕ → ℕ → List Client → Workload
keeping servers keeps clients = record { shape = pairs; servers = servers; keeps = keeps; tables = 0; clients = clients }

one_board : place_after false (Shaped pairs) (2, codes "servers 3") ≡ Ok (Listing (keeping 3 1 []))
unfolding digits
one_board = refl

one_board_told : place_after false (Shaped pairs) (2, codes "servers 3 1") ≡ Ok (Listing (keeping 3 1 []))
unfolding digits
one_board_told = refl

two_boards : place_after false (Shaped pairs) (2, codes "servers 3 2") ≡ Ok (Listing (keeping 3 2 []))
unfolding digits
two_boards = refl

takes_64_boards : place_after false (Shaped pairs) (2, codes "servers 8 64") ≡ Ok (Listing (keeping 8 64 []))
unfolding digits
takes_64_boards = refl

too_many_boards : place_after false (Shaped pairs) (2, codes "servers 1 65") ≡ Err Range
unfolding digits
too_many_boards = refl

no_board : place_after false (Shaped pairs) (2, codes "servers 1 0") ≡ Err Range
unfolding digits
no_board = refl

too_many_servers : place_after false (Shaped pairs) (2, codes "servers 9 2") ≡ Err Range
unfolding digits
too_many_servers = refl

boards_of_no_number : place_after false (Shaped pairs) (2, codes "servers 9 02") ≡ Err Number
unfolding digits
boards_of_no_number = refl

servers_of_no_number : place_after false (Shaped pairs) (2, codes "servers x 65") ≡ Err Number
unfolding digits
servers_of_no_number = refl

blank_boards : place_after false (Shaped pairs) (2, codes "servers 1 ") ≡ Err Form
unfolding digits
blank_boards = refl

four_words : place_after false (Shaped pairs) (2, codes "servers 1 2 3") ≡ Err Form
unfolding digits
four_words = refl

no_servers : place_after false (Shaped pairs) (2, codes "servers") ≡ Err Form
unfolding digits
no_servers = refl

-- positions

abbrev listed : Workload
listed = keeping 1 2 (record { server = 1; programs = [] } ∷ [])

asks : place_after false (Listing listed) (4, codes "begin at 4") ≡ Ok (Programming listed (begun (mode_at 4)))
unfolding digits
asks = refl

asks_for_the_start : place_after false (Listing listed) (4, codes "begin at 0") ≡ Ok (Programming listed (begun (mode_at 0)))
unfolding digits
asks_for_the_start = refl

asks_for_the_cap : place_after false (Listing listed) (4, codes "begin at 8") ≡ Ok (Programming listed (begun (mode_at 8)))
unfolding digits
asks_for_the_cap = refl

past_the_cap : place_after false (Listing listed) (4, codes "begin at 10") ≡ Err Range
unfolding digits
past_the_cap = refl

within_a_group : place_after false (Listing listed) (4, codes "begin at 3") ≡ Err Range
unfolding digits
within_a_group = refl

at_no_number : place_after false (Listing listed) (4, codes "begin at x") ≡ Err Number
unfolding digits
at_no_number = refl

at_zeros : place_after false (Listing listed) (4, codes "begin at 04") ≡ Err Number
unfolding digits
at_zeros = refl

at_nothing : place_after false (Listing listed) (4, codes "begin at") ≡ Err Form
unfolding digits
at_nothing = refl

at_a_blank : place_after false (Listing listed) (4, codes "begin at ") ≡ Err Form
unfolding digits
at_a_blank = refl

at_two : place_after false (Listing listed) (4, codes "begin at 4 4") ≡ Err Form
unfolding digits
at_two = refl

no_word : place_after false (Listing listed) (4, codes "begin 4") ≡ Err Form
unfolding digits
no_word = refl

another_word : place_after false (Listing listed) (4, codes "begin as 4") ≡ Err Form
unfolding digits
another_word = refl

snapshot_of_a_position : place_after false (Listing listed) (4, codes "begin snapshot 4") ≡ Err Form
unfolding digits
snapshot_of_a_position = refl

some_told : (clients : List Client) → nat_lt 0 (length clients) ≡ true → (length clients == 0) ≡ false
some_told clients some = ne_eqb (length clients) 0 (λ e. omega (arith, e, ltb-true 0 (length clients) some))

-- the range comes before the count
full : (clients : List Client) → nat_lt 0 (length clients) ≡ true → nat_lt (last_program_count clients) 10000 ≡ false → place_after false (Listing (keeping 1 2 clients)) (4, codes "begin at 4") ≡ Err Count
unfolding digits
full clients some none = rw (some_told clients some, some, none) refl

within_a_group_first : (clients : List Client) → nat_lt 0 (length clients) ≡ true → place_after false (Listing (keeping 1 2 clients)) (4, codes "begin at 3") ≡ Err Range
unfolding digits
within_a_group_first clients some = rw (some_told clients some, some) refl

-- a program that asks for a position only reads

abbrev asking : Program
asking = begun (mode_at 4)

gets : place_after false (Programming listed asking) (5, codes "get 1") ≡ Ok (Programming listed (gains_command (Get 1) asking))
unfolding digits
gets = refl

scans : place_after false (Programming listed asking) (5, codes "scan 1 2 5") ≡ Ok (Programming listed (gains_command (Scan 1 2 5) asking))
unfolding digits
scans = refl

scans_backward : place_after false (Programming listed asking) (5, codes "scan 2 1 5") ≡ Err Order
unfolding digits
scans_backward = refl

puts : place_after false (Programming listed asking) (5, codes "put 1 a") ≡ Err Word
unfolding digits
puts = refl

puts_nothing : place_after false (Programming listed asking) (5, codes "put") ≡ Err Word
unfolding digits
puts_nothing = refl

deletes : place_after false (Programming listed asking) (5, codes "del 1") ≡ Err Word
unfolding digits
deletes = refl

adds : place_after false (Programming listed asking) (5, codes "add 1 1") ≡ Err Word
unfolding digits
adds = refl

ends : place_after false (Programming listed asking) (5, codes "end") ≡ Ok (Listing (with_program asking listed))
unfolding digits
ends = refl
