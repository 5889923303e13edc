use Rattle.std.proofs.Common.{◌≡◌, ◌+◌, ◌*◌, ◌<◌, ◌≤◌, ℕ, List, [], ◌++◌, Ok, Err, refl, sym, ap, ◌∙◌, subst, arith, inl, inr, rules}
use Rattle.wtf_base.specs.declared.fault.Fault.{Fault}
use Rattle.wtf_base.specs.declared.ids.InodeId.{InodeId}
use Rattle.wtf_kv.specs.Stores.{Store}
use Rattle.wtf_occ.specs.Attempts.{Attempted, GrowsBy}
use Rattle.wtf_occ.proofs.AttemptLaws.{Grows-on}
use Rattle.wtf_overlay.specs.Origin.{pieces_len}
use Rattle.wtf_overlay.specs.declared.part.Piece.{Piece}
use Rattle.wtf_model.specs.declared.answer.Answer.TheVariants as answer
use Rattle.wtf_model.specs.declared.answer.Word.TheVariants.{TooBig}
use Rattle.wtf_model.specs.declared.limits.TheConstants.{MAX_REGIONS}
use Rattle.wtf_model.specs.declared.op.Op.TheVariants as op
use Rattle.wtf_values.specs.declared.key.Key.{Key}
use Rattle.wtf_values.specs.declared.value.Delta.{Delta}
use Rattle.wtf_values.specs.declared.value.Value.{Value}
use Rattle.wtf_meta.specs.Maps.{Map, seen}
use Rattle.wtf_meta.specs.Bytes.{MapBytes, any_slice}
use Rattle.wtf_meta.specs.FileEdits.{edits_of}
use Rattle.wtf_meta.specs.NameEdits.{create_edits}
use Rattle.wtf_index.specs.Checks.{target_of}
use Rattle.wtf_index.specs.Recorded.{target_keys}
use Rattle.wtf_index.proofs.Going.{keys_more, seen-same}
use Rattle.wtf_region.specs.Devs.{inside_of}
use Rattle.wtf_region.specs.Edited.{Edited, LaysPieces}
use Rattle.wtf_steps.specs.Faults.{MayFault}
use Rattle.wtf_steps.specs.Steps.{in_hand}
use Rattle.wtf_steps.proofs.Ways.{step_of}
use Rattle.wtf_slicing.specs.declared.op.SliceOp.TheVariants.{Concat}
use Rattle.wtf_slicing.specs.Recorded.{sources_keys, files_keys}
use Rattle.wtf_slicing.specs.Sources.{sources_of, lens_of, ReadsFiles, AreFilesRead, LacksFile}
use Rattle.wtf_slicing.specs.Changed.{IsConcat}
use Rattle.wtf_slicing.specs.Sights.{sight}
use Rattle.wtf_slicing.proofs.CopyWays.{went_all}
use Rattle.wtf_slicing.proofs.ConcatWays.{grown, left_still, left_refused, gathers, all_keys, concat_keys_are, not_more, too_many}
use Rattle.wtf_slicing.proofs.ConcatWays.{concats_nowhere, concats_nothing, concats_too_much, concats}
use Rattle.wtf_slicing.proofs.DoneWays.{hand_same, done_refused}
use Rattle.wtf_slicing.proofs.SliceWays.{step_looked}
use Rattle.wtf_slicing.proofs.TakeFaults.{concat_due}
use Rattle.wtf_steps.proofs.Making.{makes_these, keeps_changes}
use Rattle.wtf_slicing.proofs.concats.concat.Goals as goal

pub returns-in-Ok-Err-clause-step : goal.returns-in-Ok-Err-clause-step
returns-in-Ok-Err-clause-step g c x s size own =
    let q : List ℕ = c.args.q.now in
    let ps : List (List ℕ) = c.args.paths.now in
    let b : Map = seen c.args.kv.now c.args.at.now in
    let e : target_of b q ≡ Err c.in-Ok-Err.word = sym c.in-Ok-Err.ensures.value ∙ c.in-Ok-Err.field-0-is in
    step_looked g.S.SliceStore.kind c.args.dev.now c.args.dev.now x b (in_hand c.args.at.now s) (in_hand c.target.new.at s) (op.Concat q ps)
    (answer.Refused c.in-Ok-Err.word)
    (step_of x b (in_hand c.args.at.now s) (in_hand c.target.new.at s) (target_keys b q) (op.Concat q ps) (answer.Refused c.in-Ok-Err.word)
    c.in-Ok-Err.ensures.went
    (concats_nowhere x b s q ps c.in-Ok-Err.word e))

pub returns-in-Ok-Err-sources-clause-step : goal.returns-in-Ok-Err-sources-clause-step
returns-in-Ok-Err-sources-clause-step g c x s size own =
    let kv = c.args.kv.now in
    let at = c.args.at.now in
    let mid = c.target.new.at in
    let new = c.sources.new.at in
    let q : List ℕ = c.args.q.now in
    let ps : List (List ℕ) = c.args.paths.now in
    let word = c.in-Ok-Err-sources.word in
    let b : Map = seen kv at in
    let first : GrowsBy at mid (target_keys b q) [] = c.in-Ok-Ok.ensures.went in
    let same : seen kv mid ≡ b = seen-same kv at mid (target_keys b q) first in
    let e : target_of b q ≡ Ok c.in-Ok-Ok.dir = sym c.in-Ok-Ok.ensures.value ∙ c.in-Ok-Ok.field-0-is in
    let f0 = rw c.in-Ok-Err-sources.field-0-is at c.in-Ok-Err-sources.ensures.refused in
    let f : sources_of b ps ≡ Err word =
    subst (λ (m : Map). sources_of m ps ≡ Err word) same (subst (λ (l : List (List ℕ)). sources_of (seen kv mid) l ≡ Err word) c.as_slice.ensures f0) in
    let second : GrowsBy mid new (sources_keys b ps) [] =
    subst (λ (m : Map). GrowsBy mid new (sources_keys m ps) []) same
    (subst (λ (l : List (List ℕ)). GrowsBy mid new (sources_keys (seen kv mid) l) []) c.as_slice.ensures c.in-Ok-Err-sources.ensures.went) in
    step_looked g.S.SliceStore.kind c.args.dev.now c.args.dev.now x b (in_hand at s) (in_hand new s) (op.Concat q ps) (answer.Refused word)
    (step_of x b (in_hand at s) (in_hand new s) (target_keys b q ++ sources_keys b ps) (op.Concat q ps) (answer.Refused word)
    (keys_more at mid new (target_keys b q) (sources_keys b ps) first second) (concats_nothing x b s q ps c.in-Ok-Ok.dir e word f))

pub returns-then-len-cap-clause-step : goal.returns-then-len-cap-clause-step
returns-then-len-cap-clause-step g c x s size own =
    let kv = c.args.kv.now in
    let at = c.args.at.now in
    let mid = c.target.new.at in
    let far = c.sources.new.at in
    let new = c.total_len.new.at in
    let z = c.args.dev.now.settings.region in
    let q : List ℕ = c.args.q.now in
    let ps : List (List ℕ) = c.args.paths.now in
    let is : List InodeId = c.in-Ok-Ok-sources.inodes.items in
    let b : Map = seen kv at in
    let first : GrowsBy at mid (target_keys b q) [] = c.in-Ok-Ok.ensures.went in
    let same : seen kv mid ≡ b = seen-same kv at mid (target_keys b q) first in
    let e : target_of b q ≡ Ok c.in-Ok-Ok.dir = sym c.in-Ok-Ok.ensures.value ∙ c.in-Ok-Ok.field-0-is in
    let f0 = rw c.in-Ok-Ok-sources.field-0-is at c.in-Ok-Ok-sources.ensures.found in
    let f : sources_of b ps ≡ Ok is =
    subst (λ (m : Map). sources_of m ps ≡ Ok is) same (subst (λ (l : List (List ℕ)). sources_of (seen kv mid) l ≡ Ok is) c.as_slice.ensures f0) in
    let second : GrowsBy mid far (sources_keys b ps) [] =
    subst (λ (m : Map). GrowsBy mid far (sources_keys m ps) []) same
    (subst (λ (l : List (List ℕ)). GrowsBy mid far (sources_keys (seen kv mid) l) []) c.as_slice.ensures c.in-Ok-Ok-sources.ensures.went) in
    let again : seen kv far ≡ b = seen-same kv mid far (sources_keys b ps) second ∙ same in
    let third : GrowsBy far new (files_keys b is) [] =
    subst (λ (m : Map). GrowsBy far new (files_keys m is) []) again
    (subst (λ (l : List InodeId). GrowsBy far new (files_keys (seen kv far) l) []) c.as_slice-2.ensures.value c.in-Ok.ensures.went) in
    let past : MAX_REGIONS * z < lens_of z b is =
    subst (λ (m : Map). MAX_REGIONS * z < lens_of z m is) again
    (subst (λ (l : List InodeId). MAX_REGIONS * z < lens_of z (seen kv far) l) c.as_slice-2.ensures.value
    (too_many c.in-Ok.len (lens_of z (seen kv far) c.as_slice-2.result.now) c.cap.result z c.in-Ok.ensures.value c.if-len-cap.true c.cap.ensures)) in
    step_looked g.S.SliceStore.kind c.args.dev.now c.args.dev.now x b (in_hand at s) (in_hand new s) (op.Concat q ps) (answer.Refused TooBig)
    (step_of x b (in_hand at s) (in_hand new s) (all_keys b q ps is) (op.Concat q ps) (answer.Refused TooBig)
    (keys_more at mid new (target_keys b q) (sources_keys b ps ++ files_keys b is) first
    (keys_more mid far new (sources_keys b ps) (files_keys b is) second third))
    (concats_too_much x b s q ps c.in-Ok-Ok.dir e is f (subst (λ (k : ℕ). MAX_REGIONS * k < lens_of k b is) (sym size) past)))

-- what was found before the files were read
seen_found : (kv : Store Key Value) (at mid far read : Attempted Key Delta) (q : List ℕ) (ps ls : List (List ℕ)) (is js : List InodeId) → ls ≡ ps → js ≡ is
    → GrowsBy at mid (target_keys (seen kv at) q) []
    → GrowsBy mid far (sources_keys (seen kv mid) ls) [] → GrowsBy far read (files_keys (seen kv far) js) [] → sources_of (seen kv mid) ls ≡ Ok is
    → (seen kv read ≡ seen kv at) × (seen kv far ≡ seen kv at) × (sources_of (seen kv at) ps ≡ Ok is)
seen_found kv at mid far read q ps ls is js paths inodes first second third found =
    let same : seen kv mid ≡ seen kv at = seen-same kv at mid (target_keys (seen kv at) q) first in
    let again : seen kv far ≡ seen kv at = seen-same kv mid far (sources_keys (seen kv mid) ls) second ∙ same in
    let last : seen kv read ≡ seen kv at = seen-same kv far read (files_keys (seen kv far) js) third ∙ again in
    (last, again, subst (λ (m : Map). sources_of m ps ≡ Ok is) same (subst (λ (l : List (List ℕ)). sources_of (seen kv mid) l ≡ Ok is) paths found))

pub all_pieces-requires-clause-inside : goal.all_pieces-requires-clause-inside
all_pieces-requires-clause-inside g c =
    let kv = c.args.kv.now in
    let at = c.args.at.now in
    let kind = g.S.SliceStore.kind in
    let dev = c.args.dev.now in
    let is : List InodeId = c.in-Ok-Ok-sources.inodes.items in
    let f0 = rw c.in-Ok-Ok-sources.field-0-is at c.in-Ok-Ok-sources.ensures.found in
    let found = seen_found kv at c.target.new.at c.sources.new.at c.total_len.new.at c.args.q.now c.args.paths.now c.as_slice.result.now is
    c.as_slice-2.result.now c.as_slice.ensures c.as_slice-2.ensures.value
    c.in-Ok-Ok.ensures.went c.in-Ok-Ok-sources.ensures.went c.in-Ok.ensures.went f0 in
    subst (λ (m : Map). MapBytes (inside_of kind dev) any_slice m) (sym found.0) c.requires.inside

pub returns-in-Err-all_pieces-clause-fault : goal.returns-in-Err-all_pieces-clause-fault
returns-in-Err-all_pieces-clause-fault g c =
    let kv = c.args.kv.now in
    let at = c.args.at.now in
    let kind = g.S.SliceStore.kind in
    let dev = c.args.dev.now in
    let new = c.all_pieces.new.dev in
    let is : List InodeId = c.in-Ok-Ok-sources.inodes.items in
    let why = c.in-Err-all_pieces.why in
    let f0 = rw c.in-Ok-Ok-sources.field-0-is at c.in-Ok-Ok-sources.ensures.found in
    let found = seen_found kv at c.target.new.at c.sources.new.at c.total_len.new.at c.args.q.now c.args.paths.now c.as_slice.result.now is
    c.as_slice-2.result.now c.as_slice.ensures c.as_slice-2.ensures.value
    c.in-Ok-Ok.ensures.went c.in-Ok-Ok-sources.ensures.went c.in-Ok.ensures.went f0 in
    elim c.in-Err-all_pieces.ensures.fault [
      | inl memory ↦ inl memory
      | inr lacks ↦ inr (
        is,
        found.2,
        subst (λ (m : Map). LacksFile kind dev new m is why) found.0
            (subst (λ (l : List InodeId). LacksFile kind dev new (seen kv c.total_len.new.at) l why) c.as_slice-3.ensures.value lacks),
      )
    ]

pub returns-in-Err-all_pieces-clause-due : goal.returns-in-Err-all_pieces-clause-due
returns-in-Err-all_pieces-clause-due g c s =
    let kv = c.args.kv.now in
    let at = c.args.at.now in
    let kind = g.S.SliceStore.kind in
    let dev = c.args.dev.now in
    let z = dev.settings.region in
    let new = c.all_pieces.new.dev in
    let q : List ℕ = c.args.q.now in
    let ps : List (List ℕ) = c.args.paths.now in
    let is : List InodeId = c.in-Ok-Ok-sources.inodes.items in
    let why = c.in-Err-all_pieces.why in
    let b : Map = seen kv at in
    let far = c.sources.new.at in
    let e : target_of b q ≡ Ok c.in-Ok-Ok.dir = sym c.in-Ok-Ok.ensures.value ∙ c.in-Ok-Ok.field-0-is in
    let f0 = rw c.in-Ok-Ok-sources.field-0-is at c.in-Ok-Ok-sources.ensures.found in
    let found = seen_found kv at c.target.new.at far c.total_len.new.at q ps c.as_slice.result.now is c.as_slice-2.result.now c.as_slice.ensures
    c.as_slice-2.ensures.value
    c.in-Ok-Ok.ensures.went c.in-Ok-Ok-sources.ensures.went c.in-Ok.ensures.went f0 in
    let fit : lens_of z b is ≤ MAX_REGIONS * z =
    subst (λ (m : Map). lens_of z m is ≤ MAX_REGIONS * z) found.1
    (subst (λ (l : List InodeId). lens_of z (seen kv far) l ≤ MAX_REGIONS * z) c.as_slice-2.ensures.value
    (not_more c.in-Ok.len (lens_of z (seen kv far) c.as_slice-2.result.now) c.cap.result z c.in-Ok.ensures.value c.if-len-cap.false c.cap.ensures
    (omega (arith, dev.settings.limits)))) in
    elim c.in-Err-all_pieces.ensures.fault [
      | inl memory ↦ subst (λ (r : Fault). MayFault dev.settings b s (op.Concat q ps) r) (sym memory) (λ x told T size st holds. tt)
      | inr lacks ↦ concat_due g.met.S.SliceStore.laws dev new b s q c.in-Ok-Ok.dir ps is why e found.2 fit c.requires.sound c.requires.inside
          (subst (λ (m : Map). LacksFile kind dev new m is why) found.0
          (subst (λ (l : List InodeId). LacksFile kind dev new (seen kv c.total_len.new.at) l why) c.as_slice-3.ensures.value lacks))
    ]

within : (n m lens cap : ℕ) → n ≡ m → m ≡ lens → lens ≤ cap → 0 + n ≤ cap
within n m lens cap first next fit = omega (arith, first, next, fit)

pub put_pieces-requires : goal.put_pieces-requires
put_pieces-requires g c =
    let kv = c.args.kv.now in
    let far = c.sources.new.at in
    let z = c.args.dev.now.settings.region in
    let is : List InodeId = c.in-Ok-Ok-sources.inodes.items in
    let out : List Piece = c.in-Ok-all_pieces.found.items in
    let same : seen kv c.total_len.new.at ≡ seen kv far =
    seen-same kv far c.total_len.new.at (files_keys (seen kv far) c.as_slice-2.result.now) c.in-Ok.ensures.went in
    let len : pieces_len out ≡ lens_of z (seen kv far) is =
    subst (λ (m : Map). pieces_len out ≡ lens_of z m is) same
    (subst (λ (l : List InodeId). pieces_len out ≡ lens_of z (seen kv c.total_len.new.at) l) c.as_slice-3.ensures.value
    c.in-Ok-all_pieces.ensures.read.reads.len) in
    let fit : lens_of z (seen kv far) is ≤ MAX_REGIONS * z =
    subst (λ (l : List InodeId). lens_of z (seen kv far) l ≤ MAX_REGIONS * z) c.as_slice-2.ensures.value
    (not_more c.in-Ok.len (lens_of z (seen kv far) c.as_slice-2.result.now) c.cap.result z c.in-Ok.ensures.value c.if-len-cap.false c.cap.ensures
    (omega (arith, c.args.dev.now.settings.limits))) in
    record {
      cap = within (pieces_len c.as_slice-4.result.now) (pieces_len out) (lens_of z (seen kv far) is) (MAX_REGIONS * z)
          (ap pieces_len c.as_slice-4.ensures.value) len fit;
    }

pub returns-in-Ok-put_pieces-clause-keys : goal.returns-in-Ok-put_pieces-clause-keys
returns-in-Ok-put_pieces-clause-keys g c =
    let kv = c.args.kv.now in
    let at = c.args.at.now in
    let mid = c.target.new.at in
    let far = c.sources.new.at in
    let read = c.total_len.new.at in
    let q : List ℕ = c.args.q.now in
    let ps : List (List ℕ) = c.args.paths.now in
    let is : List InodeId = c.in-Ok-Ok-sources.inodes.items in
    let dir = c.in-Ok-Ok.dir in
    let b : Map = seen kv at in
    let first : GrowsBy at mid (target_keys b q) [] = c.in-Ok-Ok.ensures.went in
    let same : seen kv mid ≡ b = seen-same kv at mid (target_keys b q) first in
    let e : target_of b q ≡ Ok dir = sym c.in-Ok-Ok.ensures.value ∙ c.in-Ok-Ok.field-0-is in
    let f0 = rw c.in-Ok-Ok-sources.field-0-is at c.in-Ok-Ok-sources.ensures.found in
    let f : sources_of b ps ≡ Ok is =
    subst (λ (m : Map). sources_of m ps ≡ Ok is) same (subst (λ (l : List (List ℕ)). sources_of (seen kv mid) l ≡ Ok is) c.as_slice.ensures f0) in
    let second : GrowsBy mid far (sources_keys b ps) [] =
    subst (λ (m : Map). GrowsBy mid far (sources_keys m ps) []) same
    (subst (λ (l : List (List ℕ)). GrowsBy mid far (sources_keys (seen kv mid) l) []) c.as_slice.ensures c.in-Ok-Ok-sources.ensures.went) in
    let again : seen kv far ≡ b = seen-same kv mid far (sources_keys b ps) second ∙ same in
    let third : GrowsBy far read (files_keys b is) [] =
    subst (λ (m : Map). GrowsBy far read (files_keys m is) []) again
    (subst (λ (l : List InodeId). GrowsBy far read (files_keys (seen kv far) l) []) c.as_slice-2.ensures.value c.in-Ok.ensures.went) in
    let made : GrowsBy read c.make_file.new.at [] (create_edits dir q c.args.new) =
    subst (λ (a : Attempted Key Delta). GrowsBy a c.make_file.new.at [] (create_edits dir q c.args.new)) c.in-Ok-all_pieces.ensures.same
    c.in-Ok-make_file.ensures.went in
    let laid = c.in-Ok-put_pieces.ensures.ok in
    let all = went_all at mid far read c.make_file.new.at c.put_pieces.new.at (target_keys b q) (sources_keys b ps) (files_keys b is)
    (create_edits dir q c.args.new) (edits_of c.args.new laid.edits) first second third made laid.grows in
    all.reads ∙ ap (λ (l : List Key). at.reads ++ l) (sym (concat_keys_are b q dir ps is e f))

pub returns-in-Ok-put_pieces-clause-step : goal.returns-in-Ok-put_pieces-clause-step
returns-in-Ok-put_pieces-clause-step g c x s size own =
    let kv = c.args.kv.now in
    let at = c.args.at.now in
    let mid = c.target.new.at in
    let far = c.sources.new.at in
    let read = c.total_len.new.at in
    let into = c.put_pieces.new.at in
    let z = c.args.dev.now.settings.region in
    let new = c.args.new in
    let q : List ℕ = c.args.q.now in
    let ps : List (List ℕ) = c.args.paths.now in
    let is : List InodeId = c.in-Ok-Ok-sources.inodes.items in
    let out : List Piece = c.in-Ok-all_pieces.found.items in
    let dir = c.in-Ok-Ok.dir in
    let b : Map = seen kv at in
    let first : GrowsBy at mid (target_keys b q) [] = c.in-Ok-Ok.ensures.went in
    let same : seen kv mid ≡ b = seen-same kv at mid (target_keys b q) first in
    let e : target_of b q ≡ Ok dir = sym c.in-Ok-Ok.ensures.value ∙ c.in-Ok-Ok.field-0-is in
    let f0 = rw c.in-Ok-Ok-sources.field-0-is at c.in-Ok-Ok-sources.ensures.found in
    let f : sources_of b ps ≡ Ok is =
    subst (λ (m : Map). sources_of m ps ≡ Ok is) same (subst (λ (l : List (List ℕ)). sources_of (seen kv mid) l ≡ Ok is) c.as_slice.ensures f0) in
    let second : GrowsBy mid far (sources_keys b ps) [] =
    subst (λ (m : Map). GrowsBy mid far (sources_keys m ps) []) same
    (subst (λ (l : List (List ℕ)). GrowsBy mid far (sources_keys (seen kv mid) l) []) c.as_slice.ensures c.in-Ok-Ok-sources.ensures.went) in
    let again : seen kv far ≡ b = seen-same kv mid far (sources_keys b ps) second ∙ same in
    let third : GrowsBy far read (files_keys b is) [] =
    subst (λ (m : Map). GrowsBy far read (files_keys m is) []) again
    (subst (λ (l : List InodeId). GrowsBy far read (files_keys (seen kv far) l) []) c.as_slice-2.ensures.value c.in-Ok.ensures.went) in
    let last : seen kv read ≡ b = seen-same kv far read (files_keys b is) third ∙ again in
    let made : GrowsBy read c.make_file.new.at [] (create_edits dir q new) =
    subst (λ (a : Attempted Key Delta). GrowsBy a c.make_file.new.at [] (create_edits dir q new)) c.in-Ok-all_pieces.ensures.same
    c.in-Ok-make_file.ensures.went in
    let laid : Edited new [] (LaysPieces x.size 0 new out) c.make_file.new.at into =
    subst (λ (k : ℕ). Edited new [] (LaysPieces k 0 new out) c.make_file.new.at into) (sym size)
    (subst (λ (l : List Piece). Edited new [] (LaysPieces z 0 new l) c.make_file.new.at into) c.as_slice-4.ensures.value c.in-Ok-put_pieces.ensures.ok) in
    let kind = g.S.SliceStore.kind in
    let went : AreFilesRead kind c.args.dev.now c.all_pieces.new.dev b is out =
    subst (λ (m : Map). AreFilesRead kind c.args.dev.now c.all_pieces.new.dev m is out) last
    (subst (λ (l : List InodeId). AreFilesRead kind c.args.dev.now c.all_pieces.new.dev (seen kv read) l out) c.as_slice-3.ensures.value
    c.in-Ok-all_pieces.ensures.read) in
    let fit0 : lens_of z b is ≤ MAX_REGIONS * z =
    subst (λ (m : Map). lens_of z m is ≤ MAX_REGIONS * z) again
    (subst (λ (l : List InodeId). lens_of z (seen kv far) l ≤ MAX_REGIONS * z) c.as_slice-2.ensures.value
    (not_more c.in-Ok.len (lens_of z (seen kv far) c.as_slice-2.result.now) c.cap.result z c.in-Ok.ensures.value c.if-len-cap.false c.cap.ensures
    (omega (arith, c.args.dev.now.settings.limits)))) in
    let reads : ReadsFiles x.size b is went.facts out = subst (λ (k : ℕ). ReadsFiles k b is went.facts out) (sym size) went.reads in
    let fit : lens_of x.size b is ≤ MAX_REGIONS * x.size = subst (λ (k : ℕ). lens_of k b is ≤ MAX_REGIONS * k) (sym size) fit0 in
    record {
      did = gathers (all_keys b q ps is) (create_edits dir q new ++ edits_of new laid.edits) went.facts;
      grows = went_all at mid far read c.make_file.new.at into (target_keys b q) (sources_keys b ps) (files_keys b is) (create_edits dir q new)
          (edits_of new laid.edits) first second third made laid.grows;
      is_call = concats x b s q ps dir e is f new out laid.edits (omega (arith, size, c.args.dev.now.settings.limits)) own
          c.in-Ok-Ok.ensures.path fit went.facts reads laid.does;
      more = record { facts = refl; stored = refl; slices = reads.slices; inside = went.inside; lists = went.told };
    }

pub returns-in-Ok-Err-clause-done : goal.returns-in-Ok-Err-clause-done
returns-in-Ok-Err-clause-done g c s =
    let dev = c.args.dev.now in
    let at = c.args.at.now in
    done_refused (record { kind = g.S.SliceStore.kind; before = dev; after = dev; map = seen c.args.kv.now at }) c.args.new
    (Concat c.args.q c.args.paths) c.in-Ok-Err.word
    (in_hand at s) (in_hand c.target.new.at s) refl (keeps_changes at c.target.new.at _ c.in-Ok-Err.ensures.went) refl

pub returns-in-Ok-Err-sources-clause-done : goal.returns-in-Ok-Err-sources-clause-done
returns-in-Ok-Err-sources-clause-done g c s =
    let kv = c.args.kv.now in
    let dev = c.args.dev.now in
    let at = c.args.at.now in
    let mid = c.target.new.at in
    let far = c.sources.new.at in
    let first : mid.changes ≡ at.changes = keeps_changes at mid (target_keys (seen kv at) c.args.q.now) c.in-Ok-Ok.ensures.went in
    let second : far.changes ≡ mid.changes = keeps_changes mid far (sources_keys (seen kv mid) c.as_slice.result.now) c.in-Ok-Err-sources.ensures.went in
    done_refused (record { kind = g.S.SliceStore.kind; before = dev; after = dev; map = seen kv at }) c.args.new
    (Concat c.args.q c.args.paths) c.in-Ok-Err-sources.word
    (in_hand at s) (in_hand far s) refl (second ∙ first) refl

pub returns-then-len-cap-clause-done : goal.returns-then-len-cap-clause-done
returns-then-len-cap-clause-done g c s =
    let kv = c.args.kv.now in
    let dev = c.args.dev.now in
    let at = c.args.at.now in
    let mid = c.target.new.at in
    let far = c.sources.new.at in
    let read = c.total_len.new.at in
    let first : mid.changes ≡ at.changes = keeps_changes at mid (target_keys (seen kv at) c.args.q.now) c.in-Ok-Ok.ensures.went in
    let second : far.changes ≡ mid.changes = keeps_changes mid far (sources_keys (seen kv mid) c.as_slice.result.now) c.in-Ok-Ok-sources.ensures.went in
    let third : read.changes ≡ far.changes = keeps_changes far read (files_keys (seen kv far) c.as_slice-2.result.now) c.in-Ok.ensures.went in
    done_refused (record { kind = g.S.SliceStore.kind; before = dev; after = dev; map = seen kv at }) c.args.new (Concat c.args.q c.args.paths) TooBig
    (in_hand at s) (in_hand read s) refl (third ∙ second ∙ first) refl

pub returns-in-Ok-put_pieces-clause-done : goal.returns-in-Ok-put_pieces-clause-done
returns-in-Ok-put_pieces-clause-done g c s =
    let kv = c.args.kv.now in
    let at = c.args.at.now in
    let mid = c.target.new.at in
    let far = c.sources.new.at in
    let read = c.total_len.new.at in
    let into = c.put_pieces.new.at in
    let z = c.args.dev.now.settings.region in
    let new = c.args.new in
    let q : List ℕ = c.args.q.now in
    let ps : List (List ℕ) = c.args.paths.now in
    let is : List InodeId = c.in-Ok-Ok-sources.inodes.items in
    let out : List Piece = c.in-Ok-all_pieces.found.items in
    let dir = c.in-Ok-Ok.dir in
    let b : Map = seen kv at in
    let first : GrowsBy at mid (target_keys b q) [] = c.in-Ok-Ok.ensures.went in
    let same : seen kv mid ≡ b = seen-same kv at mid (target_keys b q) first in
    let e : target_of b q ≡ Ok dir = sym c.in-Ok-Ok.ensures.value ∙ c.in-Ok-Ok.field-0-is in
    let f0 = rw c.in-Ok-Ok-sources.field-0-is at c.in-Ok-Ok-sources.ensures.found in
    let f : sources_of b ps ≡ Ok is =
    subst (λ (m : Map). sources_of m ps ≡ Ok is) same (subst (λ (l : List (List ℕ)). sources_of (seen kv mid) l ≡ Ok is) c.as_slice.ensures f0) in
    let second : GrowsBy mid far (sources_keys b ps) [] =
    subst (λ (m : Map). GrowsBy mid far (sources_keys m ps) []) same
    (subst (λ (l : List (List ℕ)). GrowsBy mid far (sources_keys (seen kv mid) l) []) c.as_slice.ensures c.in-Ok-Ok-sources.ensures.went) in
    let again : seen kv far ≡ b = seen-same kv mid far (sources_keys b ps) second ∙ same in
    let third : GrowsBy far read (files_keys b is) [] =
    subst (λ (m : Map). GrowsBy far read (files_keys m is) []) again
    (subst (λ (l : List InodeId). GrowsBy far read (files_keys (seen kv far) l) []) c.as_slice-2.ensures.value c.in-Ok.ensures.went) in
    let last : seen kv read ≡ b = seen-same kv far read (files_keys b is) third ∙ again in
    let made : GrowsBy read c.make_file.new.at [] (create_edits dir q new) =
    subst (λ (a : Attempted Key Delta). GrowsBy a c.make_file.new.at [] (create_edits dir q new)) c.in-Ok-all_pieces.ensures.same
    c.in-Ok-make_file.ensures.went in
    let laid : Edited new [] (LaysPieces z 0 new out) c.make_file.new.at into =
    subst (λ (l : List Piece). Edited new [] (LaysPieces z 0 new l) c.make_file.new.at into) c.as_slice-4.ensures.value c.in-Ok-put_pieces.ensures.ok in
    let kind = g.S.SliceStore.kind in
    let went : AreFilesRead kind c.args.dev.now c.all_pieces.new.dev b is out =
    subst (λ (m : Map). AreFilesRead kind c.args.dev.now c.all_pieces.new.dev m is out) last
    (subst (λ (l : List InodeId). AreFilesRead kind c.args.dev.now c.all_pieces.new.dev (seen kv read) l out) c.as_slice-3.ensures.value
    c.in-Ok-all_pieces.ensures.read) in
    let all = went_all at mid far read c.make_file.new.at into (target_keys b q) (sources_keys b ps) (files_keys b is) (create_edits dir q new)
    (edits_of new laid.edits) first second third made laid.grows in
    record {
      recalls = record {
        facts = went.facts;
        recalls = went.recalls;
        known = went.told;
        reads = record { refused = λ h. absurd h; made = λ going. (is, f, went.wants) };
      };
      makes = makes_these (IsConcat (sight z b s new went.facts) q ps) (create_edits dir q new ++ edits_of new laid.edits) at into all.changes (record {
        dir = dir;
        target = e;
        files = is;
        sources = f;
        pieces = out;
        reads = went.reads;
        edits = laid.edits;
        laid = laid.does.exact;
        is = refl;
      });
      holds = hand_same answer.Okay s s refl;
    }

pub returns-in-Ok-put_pieces-clause-left : goal.returns-in-Ok-put_pieces-clause-left
returns-in-Ok-put_pieces-clause-left g c = record {
  logged = search rules;
  refused = λ h. absurd h;
  grows = grown c.args.at.now c.target.new.at c.sources.new.at c.total_len.new.at c.all_pieces.new.at c.make_file.new.at c.put_pieces.new.at
      c.in-Ok-Ok.ensures.grows c.in-Ok-Ok-sources.ensures.grows
      c.in-Ok.ensures.grows c.in-Ok-all_pieces.ensures.grows c.in-Ok-make_file.ensures.grows c.in-Ok-put_pieces.ensures.grows;
  reads = c.in-Ok-all_pieces.ensures.reads;
  dev = c.in-Ok-all_pieces.ensures.dev;
}

pub returns-in-Err-put_pieces-clause-left : goal.returns-in-Err-put_pieces-clause-left
returns-in-Err-put_pieces-clause-left g c = record {
  logged = tt;
  refused = tt;
  grows = grown c.args.at.now c.target.new.at c.sources.new.at c.total_len.new.at c.all_pieces.new.at c.make_file.new.at c.put_pieces.new.at
      c.in-Ok-Ok.ensures.grows c.in-Ok-Ok-sources.ensures.grows
      c.in-Ok.ensures.grows c.in-Ok-all_pieces.ensures.grows c.in-Ok-make_file.ensures.grows c.in-Err-put_pieces.ensures.grows;
  reads = c.in-Ok-all_pieces.ensures.reads;
  dev = c.in-Ok-all_pieces.ensures.dev;
}

pub returns-in-Err-clause-left : goal.returns-in-Err-clause-left
returns-in-Err-clause-left g c =
    left_still g.met.S.SliceStore.laws c.args.dev.now c.requires.sound c.args.at.now c.target.new.at c.in-Err.ensures.grows

pub returns-in-Ok-Err-clause-left : goal.returns-in-Ok-Err-clause-left
returns-in-Ok-Err-clause-left g c =
    let at = c.args.at.now in
    let new = c.target.new.at in
    left_refused g.met.S.SliceStore.laws c.args.dev.now c.requires.sound at new c.in-Ok-Err.word (search rules)
    (keeps_changes at new _ c.in-Ok-Err.ensures.went) c.in-Ok-Err.ensures.grows

pub returns-in-Err-sources-clause-left : goal.returns-in-Err-sources-clause-left
returns-in-Err-sources-clause-left g c =
    let at = c.args.at.now in
    let new = c.sources.new.at in
    left_still g.met.S.SliceStore.laws c.args.dev.now c.requires.sound at new
    (Grows-on at c.target.new.at new c.in-Ok-Ok.ensures.grows c.in-Err-sources.ensures.grows)

pub returns-in-Ok-Err-sources-clause-left : goal.returns-in-Ok-Err-sources-clause-left
returns-in-Ok-Err-sources-clause-left g c =
    let at = c.args.at.now in
    let mid = c.target.new.at in
    let new = c.sources.new.at in
    left_refused g.met.S.SliceStore.laws c.args.dev.now c.requires.sound at new c.in-Ok-Err-sources.word (search rules)
    (keeps_changes mid new _ c.in-Ok-Err-sources.ensures.went ∙ keeps_changes at mid _ c.in-Ok-Ok.ensures.went)
    (Grows-on at mid new c.in-Ok-Ok.ensures.grows c.in-Ok-Err-sources.ensures.grows)

pub returns-in-Err-total_len-clause-left : goal.returns-in-Err-total_len-clause-left
returns-in-Err-total_len-clause-left g c =
    let at = c.args.at.now in
    let mid = c.target.new.at in
    let new = c.total_len.new.at in
    left_still g.met.S.SliceStore.laws c.args.dev.now c.requires.sound at new (Grows-on at mid new c.in-Ok-Ok.ensures.grows
    (Grows-on mid c.sources.new.at new c.in-Ok-Ok-sources.ensures.grows c.in-Err-total_len.ensures.grows))

pub returns-then-len-cap-clause-left : goal.returns-then-len-cap-clause-left
returns-then-len-cap-clause-left g c =
    let at = c.args.at.now in
    let mid = c.target.new.at in
    let far = c.sources.new.at in
    let new = c.total_len.new.at in
    left_refused g.met.S.SliceStore.laws c.args.dev.now c.requires.sound at new TooBig (search rules)
    (keeps_changes far new _ c.in-Ok.ensures.went ∙ keeps_changes mid far _ c.in-Ok-Ok-sources.ensures.went
    ∙ keeps_changes at mid _ c.in-Ok-Ok.ensures.went)
    (Grows-on at mid new c.in-Ok-Ok.ensures.grows (Grows-on mid far new c.in-Ok-Ok-sources.ensures.grows c.in-Ok.ensures.grows))

pub returns-in-Err-all_pieces-clause-left : goal.returns-in-Err-all_pieces-clause-left
returns-in-Err-all_pieces-clause-left g c =
    let mid = c.target.new.at in
    let far = c.sources.new.at in
    let new = c.all_pieces.new.at in
    record {
      logged = tt;
      refused = tt;
      grows = Grows-on c.args.at.now mid new c.in-Ok-Ok.ensures.grows (Grows-on mid far new c.in-Ok-Ok-sources.ensures.grows
          (Grows-on far c.total_len.new.at new c.in-Ok.ensures.grows c.in-Err-all_pieces.ensures.grows));
      reads = c.in-Err-all_pieces.ensures.reads;
      dev = c.in-Err-all_pieces.ensures.dev;
    }

pub returns-in-Err-make_file-clause-left : goal.returns-in-Err-make_file-clause-left
returns-in-Err-make_file-clause-left g c =
    let mid = c.target.new.at in
    let far = c.sources.new.at in
    let read = c.total_len.new.at in
    let new = c.make_file.new.at in
    record {
      logged = tt;
      refused = tt;
      grows = Grows-on c.args.at.now mid new c.in-Ok-Ok.ensures.grows (Grows-on mid far new c.in-Ok-Ok-sources.ensures.grows
          (Grows-on far read new c.in-Ok.ensures.grows (Grows-on read c.all_pieces.new.at new c.in-Ok-all_pieces.ensures.grows
          c.in-Err-make_file.ensures.grows)));
      reads = c.in-Ok-all_pieces.ensures.reads;
      dev = c.in-Ok-all_pieces.ensures.dev;
    }
