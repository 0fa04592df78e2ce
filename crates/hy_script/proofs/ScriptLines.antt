-- What the lines of a script lead to.
use Rattle.std.proofs.Common.{arith, lt-ltb, suc, ◌-◌, get_or, ◌≡◌, ℕ, ◌<◌, Bool, true, false, List, [], ◌∷◌, length, refl, sym, ap, subst, ◌∙◌, ◌&&◌, nat_lt, if◌then◌else◌}
use Rattle.std.specs.Prelude.{Some, Result, Ok, Err, bytes_eq, codes, slice_get}
use Rattle.std.specs.List.{list_any}
use Rattle.std.proofs.lemmas.Bool.{ne_eqb}
use Rattle.hy_base.specs.declared.layout.Shape.{Shape}
use Rattle.hy_base.specs.declared.workload.Client.{Client}
use Rattle.hy_base.specs.Script.{Workload}
use Rattle.hy_base.specs.Shape.{is_within}
use Rattle.hy_base.specs.Spelling.{Text, number_of}
use Rattle.hy_base.specs.Limits.{most_servers, most_boards}
use Rattle.hy_script.specs.Forms.{is_blank, judged_words, read_fields, read_line}
use Rattle.hy_script.specs.Fields.{and_then, one_number, no_fields}
use Rattle.hy_script.specs.Grammar.{Place, Shaped, Listing, last_program_count, may_tell_tables, forms_at, makes_if, served, servers_forms}
use Rattle.hy_script.specs.LineParts.{leading}
use Rattle.hy_script.specs.ScriptFields.{servers_line, servers_numbers, servers_within, tables_fields, begin_fields, one_more_program, mode_fields, position_field, listing_line}
use Rattle.hy_base.specs.declared.workload.Mode.{Mode}
use Rattle.hy_script.specs.declared.script.ToldServers.{ToldServers}
use Rattle.hy_script.specs.declared.script.ListingLine.{ListingLine}
use Rattle.hy_script.specs.declared.script.ListingLine.TheVariants.{Schedule}
use Rattle.hy_script.specs.declared.why.Why.{Why}
use Rattle.hy_script.specs.declared.why.Why.TheVariants.{Word, Form, Range}
use Rattle.std.proofs.lemmas.Slice.Eq.{bytes_eq-Decides}
use Rattle.hy_script.proofs.FieldLemmas.{no_form, one_field, passes, two_fields}

-- the place after a line of servers
abbrev pub listing_of : Shape → ToldServers → Place
listing_of shape told = Listing (record { shape = shape; servers = told.servers; keeps = told.keeps; tables = 0; clients = [] })

servers_test : (t : Bool) (shape : Shape) (told : ToldServers) → judged_words (makes_if ((t, Range) ∷ []) (listing_of shape told)) ≡ leading (listing_of shape) (if t then Ok told else Err Range)
servers_test true shape told = refl
servers_test false shape told = refl

-- what two numbers make
abbrev read_served : Shape → Result (ℕ × ℕ) Why → Result Place Why
read_served shape numbers = and_then numbers (λ p. judged_words (served shape p.0 p.1))

served_leads : (shape : Shape) (numbers : Result (ℕ × ℕ) Why) → read_served shape numbers ≡ leading (listing_of shape) (and_then numbers servers_within)
served_leads shape (Ok p) = servers_test (is_within 1 most_servers p.0 && is_within 1 most_boards p.1) shape (record { servers = p.0; keeps = p.1 })
served_leads shape (Err why) = refl

-- one number, and one board
one_board : (shape : Shape) (number : Result ℕ Why) → and_then number (λ n. judged_words (served shape n 1)) ≡ read_served shape (and_then number (λ n. Ok (n, 1)))
one_board shape (Ok n) = refl
one_board shape (Err why) = refl

numbers_read : (shape : Shape) (fields : List Text) → read_fields (servers_forms shape) fields ≡ read_served shape (servers_numbers fields)
numbers_read shape [] = refl
numbers_read shape (a ∷ []) = one_field (is_blank a) (λ servers. served shape servers 1) (number_of a) ∙ one_board shape (one_number (a ∷ []))
numbers_read shape (a ∷ b ∷ []) = two_fields (list_any is_blank (a ∷ b ∷ [])) (λ servers keeps. served shape servers keeps) (number_of a) (number_of b)
numbers_read shape (a ∷ b ∷ c ∷ rest) =
    let fields = a ∷ b ∷ c ∷ rest in no_form (servers_forms shape) fields (ne_eqb 1 (length fields) (omega arith), (ne_eqb 2 (length fields) (omega arith), tt))

servers_by : (sim : Bool) (shape : Shape) (number : ℕ) (word : Text) (fields : List Text) (t : Bool) → bytes_eq word (codes "servers") ≡ t
    → leading (listing_of shape) (servers_line (word ∷ fields)) ≡ read_line (forms_at sim (Shaped shape) number) (word ∷ fields)
servers_by sim shape number word fields true e =
    subst (λ w. leading (listing_of shape) (servers_line (w ∷ fields)) ≡ read_line (forms_at sim (Shaped shape) number) (w ∷ fields)) (sym ((bytes_eq-Decides word (codes "servers")).0 e))
    (sym (numbers_read shape fields ∙ served_leads shape (servers_numbers fields)))
servers_by sim shape number word fields false e = rw e refl

pub servers_leads : (sim : Bool) (shape : Shape) (number : ℕ) (words : List Text) → leading (listing_of shape) (servers_line words) ≡ read_line (forms_at sim (Shaped shape) number) words
servers_leads sim shape number [] = refl
servers_leads sim shape number (word ∷ fields) = servers_by sim shape number word fields (bytes_eq word (codes "servers")) refl

-- fields of which the first is 'at'
pub position_follows : (shape : Shape) (word pos : Text) (fields : List Text) (read : Result Mode Why) → fields ≡ word ∷ pos ∷ [] → bytes_eq word (codes "at") ≡ true → read ≡ position_field shape (pos ∷ [])
    → read ≡ mode_fields shape fields
position_follows shape word pos fields read are at told = told ∙ sym (ap (mode_fields shape) are ∙ ap (λ t. if t then position_field shape (pos ∷ []) else Err Form) at)

-- the programs of the last client
pub last_count : (cs : List Client) (d : Client) → 0 < length cs → last_program_count cs ≡ length (get_or cs (length cs - 1) d).programs
last_count [] d some = absurd (omega arith)
last_count (c ∷ []) d some = refl
last_count (c ∷ e ∷ cs) d some =
    let at : length (c ∷ e ∷ cs) - 1 ≡ suc (length (e ∷ cs) - 1) = omega arith in
    last_count (e ∷ cs) d (omega arith) ∙ sym (ap (λ k. length (get_or (c ∷ e ∷ cs) k d).programs) at)

-- a further program of the last client is read as its line is
pub begin_listed : (sim : Bool) (script : Workload) (last : Client) (words rest : List Text) (word : Text) (read : Result ListingLine Why)
    → words ≡ word ∷ rest → bytes_eq word (codes "begin") ≡ true → nat_lt 0 (length script.clients) ≡ true → last_program_count script.clients ≡ length last.programs
    → read ≡ and_then (mode_fields script.shape rest) (one_more_program script.shape.version (length last.programs))
    → read ≡ listing_line sim script words
begin_listed sim script last words rest word read split named some count is =
    let begins : listing_line sim script (codes "begin" ∷ rest) ≡ begin_fields script rest =
    passes (may_tell_tables script) (tables_fields rest) _ ∙ ap (λ t. if t && true then begin_fields script rest else if sim && false then and_then (no_fields rest) (λ u. Ok Schedule) else Err Word) some in
    let counted : begin_fields script rest ≡ and_then (mode_fields script.shape rest) (one_more_program script.shape.version (length last.programs)) =
    ap (λ n. and_then (mode_fields script.shape rest) (one_more_program script.shape.version n)) count in
    is ∙ sym (ap (listing_line sim script) (split ∙ ap (λ w. w ∷ rest) ((bytes_eq-Decides word (codes "begin")).0 named)) ∙ begins ∙ counted)

-- there is a client, and this is the last one
pub record IsLastClient (cs : List Client) (last : Client) : Type 0 where
  pub some : nat_lt 0 (length cs) ≡ true
  pub count : last_program_count cs ≡ length last.programs

pub is_last : (cs : List Client) (last : Client) → Some last ≡ slice_get cs (length cs - 1) → IsLastClient cs last
is_last [] last is = cc
is_last (c ∷ []) last is = let same : last ≡ c = cc is in record { some = refl; count = ap (λ d. length d.programs) (sym same) }
is_last (c ∷ e ∷ cs) last is =
    let at : length (c ∷ e ∷ cs) - 1 ≡ suc (length (e ∷ cs) - 1) = omega arith in
    let later = is_last (e ∷ cs) last (is ∙ ap (slice_get (c ∷ e ∷ cs)) at) in
    record { some = lt-ltb 0 (length (c ∷ e ∷ cs)) (omega arith); count = later.count }
