use Rattle.std.proofs.Common.{[], refl, sym, ◌∙◌, append-nil}
use Rattle.std.proofs.lemmas.Result.{IfOk-weaker, on_ok_weaker}
use Rattle.wtf_occ.proofs.AttemptLaws.{GrowsBy-nothing, Grows-by}
use Rattle.wtf_meta.specs.Maps.{seen}
use Rattle.wtf_steps.specs.Steps.{in_hand}
use Rattle.wtf_steps.proofs.Making.{makes_nothing}
use Rattle.wtf_slicing.specs.declared.op.SliceOp.TheVariants.{Yank, Peek, Cut, Paste, Glue, Concat, Copy}
use Rattle.wtf_slicing.specs.Changed.{SliceMade}
use Rattle.wtf_slicing.specs.Sights.{sight}
use Rattle.wtf_slicing.proofs.Dispatch.{named, no_keys, on_err_all, if_ok_all, plain_call, peek_of, yank_of, concat_of}
use Rattle.wtf_slicing.proofs.DoneWays.{hand_same}
use Rattle.wtf_slicing.proofs.calls.run.Goals as goal

pub returns-in-Yank : goal.returns-in-Yank
returns-in-Yank g c =
    let kind = g.S.SliceStore.kind in
    let dev = c.args.dev.now in
    let left = c.yank.new.dev in
    let w = seen c.args.kv.now c.args.at.now in
    let old = in_hand c.args.at.now c.args.s.now in
    let new = in_hand c.yank.new.at c.yank.new.s in
    let f = c.in-Yank.f in
    let n = c.in-Yank.n in
    let label = c.in-Yank.label in
    let yank = c.yank.ensures in
    named (record { kind = kind; before = dev; after = left; map = w }) c.args.new old new c.args.op.now (Yank f n label) c.yank.result c.in-Yank.is
    (yank_of kind dev left w c.args.new old new f n label c.yank.result yank.keys yank.step yank.done yank.fault yank.due yank.takes)

pub returns-in-Peek : goal.returns-in-Peek
returns-in-Peek g c =
    let kind = g.S.SliceStore.kind in
    let dev = c.args.dev.now in
    let left = c.peek.new.dev in
    let at = c.args.at.now in
    let s = c.args.s.now in
    let t = c.peek.new.s in
    let w = seen c.args.kv.now at in
    let label = c.in-Peek.from in
    let off = c.in-Peek.off in
    let n = c.in-Peek.len in
    let peek = c.peek.ensures in
    named (record { kind = kind; before = dev; after = left; map = w }) c.args.new (in_hand at s) (in_hand at t) c.args.op.now (Peek label off n) c.peek.result
    c.in-Peek.is
    (peek_of kind dev left w c.args.new at s t label off n c.peek.result peek.step peek.fault peek.due peek.shows)

pub returns-in-Cut : goal.returns-in-Cut
returns-in-Cut g c =
    let dev = c.args.dev.now in
    let at = c.args.at.now in
    let s = c.args.s.now in
    let w = seen c.args.kv.now at in
    let p = Cut c.in-Cut.from c.in-Cut.off c.in-Cut.len c.in-Cut.to in
    let r = c.cut.result in
    let cut = c.cut.ensures in
    plain_call g.met.S.SliceStore.laws dev c.requires.sound w c.args.new (in_hand at s) (in_hand at c.cut.new.s) c.args.op.now p r c.plain.result c.in-Cut.is
    c.plain.ensures refl refl (record {
      keys = no_keys r at;
      step = IfOk-weaker r _ _ (λ a h x size own. h x w (in_hand at s) refl) cut.step;
      makes = if_ok_all _ r (λ a. makes_nothing a (SliceMade (sight dev.settings.region w s c.args.new []) p) at at refl refl);
      holds = cut.holds;
      lays = record {
        logged = cut.logged;
        refused = if_ok_all _ r (λ a refused. refl);
        err = cut.err;
        grows = Grows-by at at [] [] (GrowsBy-nothing at);
      };
    })

pub returns-in-Paste : goal.returns-in-Paste
returns-in-Paste g c =
    let dev = c.args.dev.now in
    let at = c.args.at.now in
    let w = seen c.args.kv.now at in
    let old = in_hand at c.args.s.now in
    let new = in_hand c.paste.new.at c.paste.new.s in
    let p = Paste c.in-Paste.f c.in-Paste.label in
    let r = c.paste.result in
    let paste = c.paste.ensures in
    plain_call g.met.S.SliceStore.laws dev c.requires.sound w c.args.new old new c.args.op.now p r c.plain-in-Paste.result c.in-Paste.is
    c.plain-in-Paste.ensures
    refl refl (record {
      keys = on_ok_weaker r (λ same. same ∙ sym (append-nil at.reads)) paste.keys;
      step = IfOk-weaker r _ _ (λ a h x size own. h x w size) paste.step;
      makes = paste.made;
      holds = paste.holds;
      lays = paste.lays;
    })

pub returns-in-Glue : goal.returns-in-Glue
returns-in-Glue g c =
    let dev = c.args.dev.now in
    let at = c.args.at.now in
    let s = c.args.s.now in
    let w = seen c.args.kv.now at in
    let p = Glue c.in-Glue.f c.in-Glue.label in
    let r = c.glue.result in
    let glue = c.glue.ensures in
    plain_call g.met.S.SliceStore.laws dev c.requires.sound w c.args.new (in_hand at s) (in_hand c.glue.new.at s) c.args.op.now p r c.plain-in-Glue.result
    c.in-Glue.is c.plain-in-Glue.ensures refl refl (record {
      keys = glue.keys;
      step = IfOk-weaker r _ _ (λ a h x size own. h x size) glue.step;
      makes = glue.made;
      holds = if_ok_all _ r (λ a. hand_same a s s refl);
      lays = glue.lays;
    })

pub returns-in-Concat : goal.returns-in-Concat
returns-in-Concat g c =
    let kind = g.S.SliceStore.kind in
    let dev = c.args.dev.now in
    let left = c.concat.new.dev in
    let was = c.args.at.now in
    let now = c.concat.new.at in
    let s = c.args.s.now in
    let w = seen c.args.kv.now was in
    let q = c.in-Concat.q in
    let ps = c.in-Concat.paths in
    let concat = c.concat.ensures in
    named (record { kind = kind; before = dev; after = left; map = w }) c.args.new (in_hand was s) (in_hand now s) c.args.op.now (Concat q ps) c.concat.result
    c.in-Concat.is
    (concat_of kind dev left w c.args.new was now s q ps c.concat.result concat.keys concat.step concat.done concat.fault concat.due concat.left)

pub returns-in-Copy : goal.returns-in-Copy
returns-in-Copy g c =
    let dev = c.args.dev.now in
    let at = c.args.at.now in
    let s = c.args.s.now in
    let w = seen c.args.kv.now at in
    let p = Copy c.in-Copy.p c.in-Copy.q in
    let r = c.copy.result in
    let copy = c.copy.ensures in
    plain_call g.met.S.SliceStore.laws dev c.requires.sound w c.args.new (in_hand at s) (in_hand c.copy.new.at s) c.args.op.now p r c.plain-in-Copy.result
    c.in-Copy.is c.plain-in-Copy.ensures refl refl (record {
      keys = copy.keys;
      step = IfOk-weaker r _ _ (λ a h x size own. h x s own) copy.step;
      makes = copy.made;
      holds = if_ok_all _ r (λ a. hand_same a s s refl);
      lays = record { logged = copy.logged; refused = copy.refused; err = on_err_all _ r refl; grows = copy.grows };
    })
