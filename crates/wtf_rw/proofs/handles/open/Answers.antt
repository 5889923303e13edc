use Rattle.std.proofs.Common.{◌≡◌, List, ℕ, [], ◌∷◌, Some, None, refl, sym, ap, ◌∙◌, subst}
use Rattle.wtf_occ.proofs.AttemptLaws.{GrowsBy-nothing}
use Rattle.wtf_model.specs.declared.answer.Answer.TheVariants as answer
use Rattle.wtf_model.specs.declared.answer.Word.TheVariants.{InUse, IsDir, NoEnt}
use Rattle.wtf_model.specs.declared.op.Op.TheVariants as op
use Rattle.wtf_values.specs.declared.key.Key.TheVariants.{Path}
use Rattle.wtf_values.specs.declared.value.Node.TheVariants.{Folder, File}
use Rattle.wtf_meta.specs.Maps.{seen}
use Rattle.wtf_meta.specs.Sessions.{SetsHandle, handle_in}
use Rattle.wtf_steps.specs.Steps.{in_hand}
use Rattle.wtf_index.specs.Checks.{stands_at}
use Rattle.wtf_rw.proofs.Ways.{opens_taken, opens_nothing, opens_folder, opens_file}
use Rattle.wtf_steps.proofs.Handing.{hand_refused, hand_goes}
use Rattle.wtf_rw.specs.Held.{OpensFile}
use Rattle.wtf_steps.proofs.Ways.{step_of, spot_open, spot_closed}
use Rattle.wtf_rw.proofs.handles.open.Goals as goal

pub returns-in_default-clause-step : goal.returns-in_default-clause-step
returns-in_default-clause-step c z x bytes size writes whole =
    let s = c.args.s.now in
    let f = c.args.f in
    let open_at = spot_open c.handle_of.result (handle_in s f) c.in_default.field-0 c.handle_of.ensures c.in_default.is in
    step_of x (seen c.args.kv.now c.args.at.now) (in_hand c.args.at.now s) (in_hand c.args.at.now s) [] (op.Open f c.args.p.now) (answer.Refused InUse)
    (GrowsBy-nothing c.args.at.now)
    (opens_taken x (seen c.args.kv.now c.args.at.now) s f c.args.p.now open_at.handle open_at.is)

pub returns-in-Some-Folder-clause-step : goal.returns-in-Some-Folder-clause-step
returns-in-Some-Folder-clause-step c z x bytes size writes whole =
    let s = c.args.s.now in
    let f = c.args.f in
    let b = seen c.args.kv.now c.args.at.now in
    let none = spot_closed c.handle_of.result (handle_in s f) c.handle_of.ensures c.in-None.is in
    let node : stands_at b c.args.p.now ≡ Some Folder = sym c.in_ok-inode.ensures.value ∙ (c.in-Some-Folder.is ∙ ap Some c.in-Some-Folder.field-0-is) in
    step_of x b (in_hand c.args.at.now s) (in_hand c.look_up.new.at s) (Path c.args.p.now ∷ []) (op.Open f c.args.p.now) (answer.Refused IsDir)
    c.in_ok-inode.ensures.went
    (opens_folder x b s f c.args.p.now none node)

pub returns-in-None-2-clause-step : goal.returns-in-None-2-clause-step
returns-in-None-2-clause-step c z x bytes size writes whole =
    let s = c.args.s.now in
    let f = c.args.f in
    let b = seen c.args.kv.now c.args.at.now in
    let none = spot_closed c.handle_of.result (handle_in s f) c.handle_of.ensures c.in-None.is in
    let node : stands_at b c.args.p.now ≡ None = sym c.in_ok-inode.ensures.value ∙ c.in-None-2.is in
    step_of x b (in_hand c.args.at.now s) (in_hand c.look_up.new.at s) (Path c.args.p.now ∷ []) (op.Open f c.args.p.now) (answer.Refused NoEnt)
    c.in_ok-inode.ensures.went
    (opens_nothing x b s f c.args.p.now none node)

pub returns-clause-step : goal.returns-clause-step
returns-clause-step c z x bytes size writes whole =
    let s = c.args.s.now in
    let f = c.args.f in
    let b = seen c.args.kv.now c.args.at.now in
    let none = spot_closed c.handle_of.result (handle_in s f) c.handle_of.ensures c.in-None.is in
    let i = c.in-Some-File.inode in
    let node : stands_at b c.args.p.now ≡ Some (File i) = sym c.in_ok-inode.ensures.value ∙ (c.in-Some-File.is ∙ ap Some c.in-Some-File.field-0-is) in
    let set : SetsHandle f (Some (record { path = c.args.p.now; inode = i; off = 0 })) s c.put_handle.new.self =
    subst (λ (p : List ℕ). SetsHandle f (Some (record { path = p; inode = i; off = 0 })) s c.put_handle.new.self) c.in_ok-path.ensures c.put_handle.ensures in
    step_of x b (in_hand c.args.at.now s) (in_hand c.look_up.new.at c.put_handle.new.self) (Path c.args.p.now ∷ []) (op.Open f c.args.p.now) answer.Okay
    c.in_ok-inode.ensures.went
    (opens_file x b s c.put_handle.new.self f c.args.p.now i none node set)

pub returns-in_default-clause-holds : goal.returns-in_default-clause-holds
returns-in_default-clause-holds c = hand_refused (answer.Refused InUse) InUse (OpensFile (seen c.args.kv.now c.args.at.now) c.args.f c.args.p.now)
    c.args.s.now refl

pub returns-in-Some-Folder-clause-holds : goal.returns-in-Some-Folder-clause-holds
returns-in-Some-Folder-clause-holds c = hand_refused (answer.Refused IsDir) IsDir (OpensFile (seen c.args.kv.now c.args.at.now) c.args.f c.args.p.now)
    c.args.s.now refl

pub returns-in-None-2-clause-holds : goal.returns-in-None-2-clause-holds
returns-in-None-2-clause-holds c = hand_refused (answer.Refused NoEnt) NoEnt (OpensFile (seen c.args.kv.now c.args.at.now) c.args.f c.args.p.now) c.args.s.now
    refl

pub returns-clause-holds : goal.returns-clause-holds
returns-clause-holds c =
    let s = c.args.s.now in
    let f = c.args.f in
    let w = seen c.args.kv.now c.args.at.now in
    let i = c.in-Some-File.inode in
    let t = c.put_handle.new.self in
    hand_goes answer.Okay (OpensFile w f c.args.p.now) s t (λ h. h) (record {
      inode = i;
      stands = sym c.in_ok-inode.ensures.value ∙ (c.in-Some-File.is ∙ ap Some c.in-Some-File.field-0-is);
      opened = subst (λ (p : List ℕ). SetsHandle f (Some (record { path = p; inode = i; off = 0 })) s t) c.in_ok-path.ensures c.put_handle.ensures;
    })
