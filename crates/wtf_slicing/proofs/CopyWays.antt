-- Each way through a copy of a file, on all maps at once.
use Rattle.std.proofs.Common.{◌≡◌, ℕ, ◌≤◌, List, [], ◌∷◌, ◌++◌, Ok, Err, refl, sym, ap, ◌∙◌, subst}
use Rattle.wtf_base.specs.declared.ids.InodeId.{InodeId}
use Rattle.wtf_kv.specs.Edits.{Agree}
use Rattle.wtf_kv.proofs.EditLaws.{Agree-parts, Fits-append}
use Rattle.wtf_occ.specs.Attempts.{Attempted, GrowsBy}
use Rattle.wtf_occ.proofs.AttemptLaws.{GrowsBy-append}
use Rattle.wtf_path.specs.Grammar.{IsPath}
use Rattle.wtf_model.specs.declared.answer.Word.{Word}
use Rattle.wtf_model.specs.declared.answer.Answer.{Answer}
use Rattle.wtf_model.specs.declared.answer.Answer.TheVariants as answer
use Rattle.wtf_model.specs.declared.item.Item.TheVariants.{BodyOf}
use Rattle.wtf_model.specs.declared.op.Op.{Op}
use Rattle.wtf_model.specs.declared.op.Op.TheVariants as op
use Rattle.wtf_model.specs.Tree.{target, bytes_of}
use Rattle.wtf_model.specs.Items.{target_reads}
use Rattle.wtf_model.specs.Done.{Done, add_file}
use Rattle.wtf_model.specs.Call.{call}
use Rattle.wtf_values.specs.declared.key.Key.{Key}
use Rattle.wtf_values.specs.declared.value.Delta.{Delta}
use Rattle.wtf_values.specs.Keys.{key_cmp}
use Rattle.wtf_values.specs.Outcomes.{outcome_of}
use Rattle.wtf_meta.specs.Maps.{Map, Edits, with}
use Rattle.wtf_meta.specs.Contents.{is_told, is_listed}
use Rattle.wtf_meta.specs.Files.{FileView}
use Rattle.wtf_meta.specs.FileEdits.{file_of}
use Rattle.wtf_meta.specs.Appends.{AgreeOn}
use Rattle.wtf_meta.specs.NameEdits.{create_edits}
use Rattle.wtf_meta.specs.Sessions.{SessionView}
use Rattle.wtf_meta.specs.Calls.{Caller, cap_for, Did, InHand, IsDone, DoneOnEach, IsCall}
use Rattle.wtf_meta.proofs.KeyPuts.{with-append}
use Rattle.wtf_meta.proofs.MapBytes.{with_bytes}
use Rattle.wtf_meta.proofs.Named.{EditsBytes-append}
use Rattle.wtf_meta.proofs.Standing.{leads-file}
use Rattle.wtf_meta.proofs.Touching.{agree_file}
use Rattle.wtf_index.specs.Checks.{source_of, target_of}
use Rattle.wtf_index.specs.Recorded.{source_keys, target_keys, keys_if}
use Rattle.wtf_index.proofs.Going.{keys_then, keys_more}
use Rattle.wtf_index.proofs.Checked.{source-refused, source-leads, source-agrees, target-refused, target-free, target-agrees}
use Rattle.wtf_index.proofs.KeysRead.{source_read, both_read}
use Rattle.wtf_index.proofs.Ways.{create-made}
use Rattle.wtf_steps.specs.Steps.{IsStepWith, NeedsNoBytes}
use Rattle.wtf_steps.proofs.Ways.{only_keys, stays}
use Rattle.wtf_slicing.specs.Copies.{regions_of, fill_edits}
use Rattle.wtf_slicing.specs.Recorded.{whole_keys, file_keys, copied_keys, copy_keys}
use Rattle.wtf_slicing.specs.Steps.{IsNewFor}
use Rattle.wtf_model.proofs.SliceLaws.{copy-by}
use Rattle.wtf_slicing.proofs.FileLists.{whole_last, whole_region}
use Rattle.wtf_slicing.proofs.KeysRead.{copied_all}
use Rattle.wtf_slicing.proofs.Regions.{fill_fits, fill_of, fill_named, fill_changes, fill_body}
use Rattle.wtf_slicing.proofs.MakeWays.{made, made_regions, made_bytes, filled_done, made_feet}

-- keys and changes of a call that reads and stores no byte
abbrev pub makes : List Key → Edits → Did
makes keys edits = record { keys = keys; edits = edits; facts = []; stored = []; lists = [] }

-- a file that is made, with all regions of another
abbrev pub copy_edits : List ℕ → List ℕ → InodeId → FileView → Edits
copy_edits dir q new v = create_edits dir q new ++ fill_edits new v.last (regions_of v)

-- keys, three times, and then changes twice
pub went_all : (a b c d e f : Attempted Key Delta) (ks ls ms : List Key) (es fs : Edits) → GrowsBy a b ks [] → GrowsBy b c ls [] → GrowsBy c d ms []
    → GrowsBy d e [] es → GrowsBy e f [] fs
    → GrowsBy a f (ks ++ (ls ++ ms)) (es ++ fs)
went_all a b c d e f ks ls ms es fs first second third fourth fifth =
    keys_then a d f (ks ++ (ls ++ ms)) (es ++ fs) (keys_more a b d ks (ls ++ ms) first (keys_more b c d ls ms second third))
    (GrowsBy-append d e f [] [] es fs fourth fifth)

-- the keys of a copy that is made
pub copy_keys_are : (b : Map) (p q dir : List ℕ) (i : InodeId) → source_of b p ≡ Ok i → target_of b q ≡ Ok dir
    → copy_keys b p q ≡ source_keys p ++ (target_keys b q ++ file_keys b i)
copy_keys_are b p q dir i e f =
    ap (λ r. source_keys p ++ keys_if r (target_keys b q ++ keys_if (target_of b q) (copied_keys b r))) e
    ∙ ap (λ r. source_keys p ++ (target_keys b q ++ keys_if r (file_keys b i))) f

-- the step of a call that makes a file
pub step_made : (x : Caller) (b : Map) (old new : InHand) (keys : List Key) (edits : Edits) (o : Op (List ℕ)) (a : Answer) → GrowsBy old.at new.at keys edits
    → IsCall x b old.session new.session (makes keys edits) o a
    → IsStepWith NeedsNoBytes x b old new o a
step_made x b old new keys edits o a grows is = record {
  did = makes keys edits;
  grows = grows;
  is_call = is;
  more = record { facts = refl; stored = refl; lists = refl };
}

module _ (x : Caller) (b : Map) (s : SessionView) (p q : List ℕ) where
  pub copies_nothing : (word : Word) → source_of b p ≡ Err word → IsCall x b s s (only_keys (source_keys p)) (op.Copy p q) (answer.Refused word)
  copies_nothing word e = stays x b s (source_keys p) (op.Copy p q) (answer.Refused word)
      (λ told w S agree st holds. source_read x.tx b w p (BodyOf p ∷ target_reads q))
      (λ told w S agree st holds.
      copy-by (cap_for x) S p q (Err word) (target S.tree q) (source-refused x.size told x.tx x.calls w S.tree st p word (source-agrees b w p agree ∙ e)) refl)

  pub copies_nowhere : (i : InodeId) (word : Word) → source_of b p ≡ Ok i → target_of b q ≡ Err word
      → IsCall x b s s (only_keys (source_keys p ++ target_keys b q)) (op.Copy p q) (answer.Refused word)
  copies_nowhere i word e f = stays x b s (source_keys p ++ target_keys b q) (op.Copy p q) (answer.Refused word)
      (λ told w S agree st holds. both_read x.tx b w (BodyOf p ∷ []) p q)
      (λ told w S agree st holds.
      let parts = Agree-parts (source_keys p) (target_keys b q) b w agree in
      let file = leads-file x.size told x.tx x.calls w S.tree st p i (source-leads w p i (source-agrees b w p parts.0 ∙ e)) in
      copy-by (cap_for x) S p q (Ok file.bytes) (Err word) (ap bytes_of file.there) (target-refused x.size told x.tx x.calls w S.tree st q word
      (target-agrees b w q parts.1 ∙ f)))

  module _ (dir : List ℕ) (i new : InodeId) (own : IsNewFor x new) (path : IsPath q) (e : source_of b p ≡ Ok i) (f : target_of b q ≡ Ok dir) where
    abbrev copied : FileView
    copied = file_of i b

    abbrev recorded : List Key
    recorded = source_keys p ++ (target_keys b q ++ file_keys b i)

    abbrev copied_edits : Edits
    copied_edits = fill_edits new copied.last (regions_of copied)

    -- what is so on a map that agrees
    record Agreed (w : Map) : Type 0 where
      there : source_of w p ≡ Ok i
      open_q : target_of w q ≡ Ok dir
      same : AgreeOn (whole_keys copied) copied (file_of i w)

    agreed : (w : Map) → Agree recorded b w → Agreed w
    agreed w agree =
        let parts = Agree-parts (source_keys p) (target_keys b q ++ file_keys b i) b w agree in
        let more = Agree-parts (target_keys b q) (file_keys b i) b w parts.1 in
        record {
          there = source-agrees b w p parts.0 ∙ e;
          open_q = target-agrees b w q more.0 ∙ f;
          same = agree_file i (whole_keys copied) b w more.1;
        }

    copied_acts : DoneOnEach x b s s (makes recorded (copy_edits dir q new copied)) (op.Copy p q) answer.Okay
    copied_acts = λ told w S agree fits facts lists st holds.
        let at = agreed w agree in
        let file = leads-file x.size told x.tx x.calls w S.tree st p i (source-leads w p i at.there) in
        let last = whole_last copied (file_of i w) at.same in
        let region : (r : ℕ) → r ≤ copied.last → copied.region r ≡ (file_of i w).region r = λ r below. whole_region copied (file_of i w) r at.same below in
        let one : Map = made x told w s S st holds q dir new own path at.open_q in
        let full : Map = with copied_edits one in
        let body = fill_body x.size told new i copied one w file.bytes
        (made_regions x told w s S st holds q dir new own path at.open_q) last region file.body in
        let told_bytes = with_bytes (is_told told) (is_listed x.size told) refl copied_edits one (made_bytes x told w s S st holds q dir new own path at.open_q)
        (fill_named (is_told told) (is_listed x.size told) new i copied w st.bytes region) in
        let changed = fill_changes new copied.last (regions_of copied) one in
        let done = filled_done x told w s S st holds q dir new own path at.open_q full file.bytes changed body told_bytes in
        let due : call (cap_for x) S (op.Copy p q) ≡ record { session = add_file S q file.bytes; answer = answer.Okay } =
        copy-by (cap_for x) S p q (Ok file.bytes) (Ok tt) (ap bytes_of file.there) (target-free x.size told x.tx x.calls w S.tree st q dir at.open_q) in
        subst (λ (m : Map). IsDone x told w m s (call (cap_for x) S (op.Copy p q)) answer.Okay) (sym (with-append (create_edits dir q new) copied_edits w))
        (subst (λ (d : Done). IsDone x told w full s d answer.Okay) (sym due) done)

    pub copies : IsCall x b s s (makes recorded (copy_edits dir q new copied)) (op.Copy p q) answer.Okay
    copies = record {
      fits = Fits-append key_cmp outcome_of (create_edits dir q new) copied_edits b (create-made x b q dir new own.tx own.index path f s tt).fits
          (fill_fits new copied.last (regions_of copied) (with (create_edits dir q new) b));
      names = λ P Q hole map old stored lists. record {
        edits = EditsBytes-append P Q (create_edits dir q new) copied_edits (tt, (tt, (tt, tt))) (fill_named P Q new i copied b map (λ r below. refl));
        facts = tt;
        slices = old;
        lists = tt;
      };
      acts = copied_acts;
      feet = λ told w S agree fits facts lists st holds.
          let at = agreed w agree in
          made_feet x told w s S st holds q dir new own path at.open_q recorded copied_edits (op.Copy p q) (copied_all x.tx b w p q i at.there)
          (fill_of new copied.last (regions_of copied)) refl (sym (copied_acts told w S agree fits facts lists st holds).answer);
    }
