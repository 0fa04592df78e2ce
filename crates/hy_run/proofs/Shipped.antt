-- What becomes of a stream that was shipped.
use Rattle.std.proofs.Common.{◌≡◌, Bool, true, false, List, length, refl, sym, ◌∙◌, ap}
use Rattle.std.specs.Prelude.{Option, Ok, nat_lt}
use Rattle.hy_base.specs.declared.layout.Shape.{Shape}
use Rattle.hy_base.specs.declared.record.EntryKind.{EntryKind}
use Rattle.hy_base.specs.Spelling.{Text}
use Rattle.hy_formats.specs.StreamFormat.{streamed}
use Rattle.hy_rules.specs.Recovery.{check_of, verdicts_text}
use Rattle.hy_run.specs.Output.{longest_source}
use Rattle.hy_run.specs.OutputLaws.{ShippedIsFollowed}
use Rattle.hy_run.specs.Streams.{read_stream}

-- a stream that is taken is read as it is
read_as : (bytes : Text) (x y : Option Shape × List EntryKind) → read_stream bytes ≡ Ok x → streamed bytes ≡ Ok y → x ≡ y
read_as bytes x y read whole = go (nat_lt longest_source (length bytes)) refl
  where
    go : (b : Bool) → nat_lt longest_source (length bytes) ≡ b → x ≡ y
    go true is = absurd (cc (rw is at read))
    go false is = let both : Ok x ≡ Ok y = sym (rw is at read) ∙ whole in cc both

pub shipped_is_followed : ShippedIsFollowed
shipped_is_followed seen shipped checked followed ship check follow =
    let log : ship.0 ≡ check.0 = (let both : Ok ship.0 ≡ Ok check.0 = sym (ship.3 refl) ∙ check.3 refl in cc both) in
    let taken = read_as shipped (follow.shape, follow.entries) _ (ap read_stream follow.are_of ∙ follow.whole) (ship.4 refl) in
    follow.text_is ∙ ap (λ (t : Option Shape × List EntryKind). verdicts_text t.0 t.1) taken ∙ ap check_of log ∙ sym check.1
