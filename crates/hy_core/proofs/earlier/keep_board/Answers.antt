use Rattle.std.proofs.Common.{◌≡◌, ◌-◌, suc, length, Some, set, refl, ap, sym, subst, ◌∙◌, arith}
use Rattle.std.specs.Prelude.{slice_get}
use Rattle.std.proofs.lemmas.Option.{slice_get_read}
use Rattle.hy_base.specs.Lists.{nth, change_nth}
use Rattle.hy_base.proofs.NthLemmas.{set_nth, change_known}
use Rattle.hy_core.specs.CoreParts.{keeping_rolls}
use Rattle.std.proofs.lemmas.Result.{on_ok_weaker}
use Rattle.hy_core.proofs.earlier.keep_board.Goals as goal

pub returns-clause-ok : goal.returns-clause-ok
returns-clause-ok c =
    let lists = c.args.earlier.now.items in
    let own = c.index_mut.result.now in
    let here : suc (c.args.server - 1) ≡ c.args.server = let least = c.requires.server.at_least in omega (arith, least) in
    let at : slice_get lists (c.args.server - 1) ≡ Some own = slice_get_read lists (length lists) (c.args.server - 1) own refl (let least = c.requires.server.at_least in let most = c.requires.server.at_most in omega (arith, least, most)) c.index_mut.ensures.value in
    let there : nth lists c.args.server ≡ Some own = subst (λ n. nth lists n ≡ Some own) here at in
    let f = keeping_rolls c.args.keeps c.args.board in
    on_ok_weaker c.keep.result (λ kept. ap (λ x. set lists (c.args.server - 1) x) kept ∙ (set_nth lists (c.args.server - 1) (f own) ∙ (ap (change_nth (λ _. f own) lists) here ∙ sym (change_known f lists c.args.server own there)))) c.keep.ensures.ok
