use Rattle.std.proofs.Common.{◌≡◌, ℕ, List, [], Some, refl, sym, ◌∙◌, ap}
use Rattle.wtf_dev.specs.Memory.{mem_store, source_view, sink_view, keeper_view, KeeperFollows}
use Rattle.wtf_serve.specs.Endings.{devices}
use Rattle.wtf_serve.specs.Stocks.{IsTelling}
use Rattle.wtf_serve.proofs.Headline.{told_new}
use Rattle.wtf_program_rows.proofs.told.told.Goals as goal

pub returns : goal.returns
returns c = λ end.
    let run = c.serve-status in
    let start = devices (source_view c.new-script.result) (sink_view c.new-out.result) c.args.shelf.now (keeper_view c.new-keeper.result) in
    let stop = devices (source_view run.new.script) (sink_view run.new.out) run.new.shelf (keeper_view run.new.keeper) in
    let text = c.in_ok-to_vec-2.field-0.items in
    let kept = c.in_ok-to_vec-3.field-0.items in
    let script_is : (source_view c.new-script.result).rest ≡ Some c.args.script.now =
    c.new-script.ensures.rest ∙ ap (λ (b : List ℕ). Some b) (c.in_ok-to_vec.ensures.items_if_clones_equal (λ x y h. h)) in
    let text_is : text ≡ run.new.out.taken = c.in_ok-to_vec-2.ensures.items_if_clones_equal (λ x y h. h) ∙ c.taken.ensures in
    let kept_is : kept ≡ run.new.keeper.bytes = c.in_ok-to_vec-3.ensures.items_if_clones_equal (λ x y h. h) ∙ c.held.ensures in
    let telling : IsTelling (keeper_view c.new-keeper.result) [] =
    record { tells = c.new-keeper.ensures.tells; held = c.new-keeper.ensures.held ∙ ap (λ (b : List ℕ). Some b) c.new-3.ensures.items } in
    told_new mem_store (KeeperFollows c.new-keeper.result run.new.keeper) c.args.settings run.result start stop c.args.script.now text kept run.ensures.served (λ d k h. refl) telling script_is
    c.new-out.ensures.taken (ap (λ (b : List ℕ). Some b) (sym text_is)) (ap (λ (b : List ℕ). Some b) (sym kept_is)) end
