-- Each way through a call that makes a file of others, on all maps at once.
use Rattle.std.proofs.Common.{◌≡◌, ℕ, ◌-◌, ◌*◌, ◌^◌, ◌<◌, ◌≤◌, min, List, [], ◌++◌, length, Ok, Err, refl, sym, ap, ◌∙◌, subst, arith}
use Rattle.wtf_base.specs.declared.fault.Fault.{Fault}
use Rattle.wtf_base.specs.declared.ids.InodeId.{InodeId}
use Rattle.wtf_dev.specs.Store.{StoreKind, KindLaws}
use Rattle.wtf_kv.specs.Edits.{Agree}
use Rattle.wtf_kv.proofs.EditLaws.{Agree-parts, Fits-append}
use Rattle.wtf_occ.specs.Attempts.{Attempted, Grows}
use Rattle.wtf_occ.proofs.AttemptLaws.{Grows-on}
use Rattle.wtf_overlay.specs.Origin.{pieces_len, pieces_origin}
use Rattle.wtf_overlay.specs.declared.part.Piece.{Piece}
use Rattle.wtf_path.specs.Grammar.{IsPath}
use Rattle.wtf_model.specs.declared.answer.Word.{Word}
use Rattle.wtf_model.specs.declared.answer.Word.TheVariants.{TooBig}
use Rattle.wtf_model.specs.declared.answer.Answer.TheVariants as answer
use Rattle.wtf_model.specs.declared.limits.TheConstants.{MAX_REGIONS}
use Rattle.wtf_model.specs.declared.op.Op.TheVariants as op
use Rattle.wtf_model.specs.Tree.{sources}
use Rattle.wtf_model.specs.Session.{Session}
use Rattle.wtf_model.specs.Done.{Done, add_file}
use Rattle.wtf_model.specs.Steps.{IsLogged}
use Rattle.wtf_model.specs.Call.{call}
use Rattle.wtf_values.specs.declared.key.Key.{Key}
use Rattle.wtf_values.specs.declared.value.Delta.{Delta}
use Rattle.wtf_values.specs.Keys.{key_cmp}
use Rattle.wtf_values.specs.Outcomes.{outcome_of}
use Rattle.wtf_meta.specs.Maps.{Map, Edits, with}
use Rattle.wtf_meta.specs.Lists.{ListFact}
use Rattle.wtf_meta.specs.Contents.{Told, is_told, is_listed, lists_in, PiecesTell}
use Rattle.wtf_meta.specs.FileEdits.{FileEdit, edits_of, file_of}
use Rattle.wtf_meta.specs.NameEdits.{create_edits}
use Rattle.wtf_meta.specs.Trees.{Stands}
use Rattle.wtf_meta.specs.Sessions.{SessionView}
use Rattle.wtf_meta.specs.Calls.{Caller, cap_for, Did, IsDone, DoneOnEach, IsCall}
use Rattle.wtf_meta.proofs.BodyEdits.{body_filled}
use Rattle.wtf_meta.proofs.FeetFiles.{edits_are_of}
use Rattle.wtf_meta.proofs.Frame.{paths_stay, dirs_stay, inodes_stay, regions_stay, links_stay}
use Rattle.wtf_meta.proofs.KeyPuts.{with-append}
use Rattle.wtf_meta.proofs.MapBytes.{with_bytes}
use Rattle.wtf_meta.proofs.Named.{EditsBytes-append}
use Rattle.wtf_meta.proofs.Telling.{told_pieces}
use Rattle.wtf_index.specs.Checks.{target_of}
use Rattle.wtf_index.specs.Recorded.{target_keys, keys_if}
use Rattle.wtf_index.proofs.Checked.{target-refused, target-free, target-agrees}
use Rattle.wtf_index.proofs.Ways.{create-made}
use Rattle.wtf_region.specs.declared.dev.Dev.{Dev}
use Rattle.wtf_region.specs.Devs.{IsSoundDev, is_down_in, stores}
use Rattle.wtf_region.specs.Edited.{LaysPieces}
use Rattle.wtf_region.proofs.ShowLaws.{reads_nothing}
use Rattle.wtf_region.proofs.Spans.{goes_nowhere}
use Rattle.wtf_steps.proofs.FitsAnywhere.{fits_anywhere}
use Rattle.wtf_steps.proofs.Ways.{only_keys, stays}
use Rattle.wtf_slicing.specs.Called.{SliceLeft}
use Rattle.wtf_slicing.specs.Recorded.{files_keys, sources_keys, found_keys, concat_keys}
use Rattle.wtf_slicing.specs.Sources.{sources_of, lens_of, ReadsFiles}
use Rattle.wtf_slicing.specs.Steps.{IsNewFor}
use Rattle.wtf_meta.proofs.Rewriting.{ChangesFile}
use Rattle.wtf_model.proofs.SliceLaws.{concat-by, concat-fits, concat-big}
use Rattle.wtf_slicing.proofs.FileLists.{Found, sources-agree, sources-refused, sources-found, lens_agree, plans_tell}
use Rattle.wtf_slicing.proofs.KeysRead.{gathered_target, gathered_paths, gathered_all}
use Rattle.wtf_slicing.proofs.MakeWays.{made, made_body, made_bytes, filled_done, made_feet}

-- changes of a file change that one alone
edits_change : (i : InodeId) (ds : List FileEdit) (w : Map) → ChangesFile i w (with (edits_of i ds) w)
edits_change i ds w = record {
  paths = λ q. paths_stay i ds w q;
  dirs = λ q. dirs_stay i ds w q;
  inodes = λ j other. inodes_stay i j ds w (λ e. other (sym e));
  regions = λ j r other. regions_stay i j r ds w (λ e. other (sym e));
  counts = λ j. links_stay i j ds w;
}

-- keys and changes of a call that reads lists of bases, and no byte
abbrev pub gathers : List Key → Edits → List ListFact → Did
gathers keys edits lists = record { keys = keys; edits = edits; facts = []; stored = []; lists = lists }

-- the keys of a target, of sources, and of whole files
abbrev pub all_keys : Map → List ℕ → List (List ℕ) → List InodeId → List Key
all_keys b q ps is = target_keys b q ++ (sources_keys b ps ++ files_keys b is)

-- the keys of a call that found its target and its sources
pub concat_keys_are : (b : Map) (q dir : List ℕ) (ps : List (List ℕ)) (is : List InodeId) → target_of b q ≡ Ok dir → sources_of b ps ≡ Ok is
    → concat_keys b q ps ≡ all_keys b q ps is
concat_keys_are b q dir ps is e f =
    ap (λ r. target_keys b q ++ keys_if r (sources_keys b ps ++ found_keys b (sources_of b ps))) e
    ∙ ap (λ r. target_keys b q ++ (sources_keys b ps ++ found_keys b r)) f

-- an attempt that grew six times grew
pub grown : (a b c d e f h : Attempted Key Delta) → Grows a b → Grows b c → Grows c d → Grows d e → Grows e f → Grows f h → Grows a h
grown a b c d e f h first second third fourth fifth sixth =
    Grows-on a b h first (Grows-on b c h second (Grows-on c d h third (Grows-on d e h fourth (Grows-on e f h fifth sixth))))

-- no list was read: what is left where a fault comes of it
pub left_still : {S : Type 0} {kind : StoreKind S} {why : Fault} → KindLaws kind → (dev : Dev S) → IsSoundDev kind dev → (old new : Attempted Key Delta)
    → Grows old new → SliceLeft kind dev dev old new (Err why)
left_still {kind = kind} laws dev sound old new grows = record {
  logged = tt;
  refused = tt;
  grows = grows;
  reads = reads_nothing kind (is_down_in dev) (stores dev);
  dev = goes_nowhere laws dev sound;
}

-- and where it is refused
pub left_refused : {S : Type 0} {kind : StoreKind S} → KindLaws kind → (dev : Dev S) → IsSoundDev kind dev → (old new : Attempted Key Delta) → (word : Word)
    → IsLogged (answer.Refused word) → new.changes ≡ old.changes → Grows old new → SliceLeft kind dev dev old new (Ok (answer.Refused word))
left_refused {kind = kind} laws dev sound old new word logged same grows = record {
  logged = logged;
  refused = λ h. (refl, same);
  grows = grows;
  reads = reads_nothing kind (is_down_in dev) (stores dev);
  dev = goes_nowhere laws dev sound;
}

-- a number that stops at a limit, against a smaller one
pub not_more : (n lens cap z : ℕ) → n ≡ min lens (2 ^ 64 - 1) → n ≤ cap → cap ≡ MAX_REGIONS * z → z < 2 ^ 32 → lens ≤ MAX_REGIONS * z
not_more n lens cap z is low e small = omega (arith, is, low, e, small)

pub too_many : (n lens cap z : ℕ) → n ≡ min lens (2 ^ 64 - 1) → cap < n → cap ≡ MAX_REGIONS * z → MAX_REGIONS * z < lens
too_many n lens cap z is high e = omega (arith, is, high, e)

module _ (x : Caller) (b : Map) (s : SessionView) (q : List ℕ) (ps : List (List ℕ)) where
  pub concats_nowhere : (word : Word) → target_of b q ≡ Err word → IsCall x b s s (only_keys (target_keys b q)) (op.Concat q ps) (answer.Refused word)
  concats_nowhere word e = stays x b s (target_keys b q) (op.Concat q ps) (answer.Refused word) (λ told w S agree st holds. gathered_target x.tx b w q ps)
      (λ told w S agree st holds.
      concat-by (cap_for x) S q ps (Err word) (sources S.tree ps) (target-refused x.size told x.tx x.calls w S.tree st q word (target-agrees b w q agree ∙ e))
      refl)

  module _ (dir : List ℕ) (e : target_of b q ≡ Ok dir) where
    pub concats_nothing : (word : Word) → sources_of b ps ≡ Err word
        → IsCall x b s s (only_keys (target_keys b q ++ sources_keys b ps)) (op.Concat q ps) (answer.Refused word)
    concats_nothing word f = stays x b s (target_keys b q ++ sources_keys b ps) (op.Concat q ps) (answer.Refused word)
        (λ told w S agree st holds. gathered_paths x.tx b w q ps)
        (λ told w S agree st holds.
        let parts = Agree-parts (target_keys b q) (sources_keys b ps) b w agree in
        concat-by (cap_for x) S q ps (Ok tt) (Err word) (target-free x.size told x.tx x.calls w S.tree st q dir (target-agrees b w q parts.0 ∙ e))
        (sources-refused x.size told x.tx x.calls w S.tree st ps word (sources-agree b w ps parts.1 ∙ f)))

    module _ (is : List InodeId) (f : sources_of b ps ≡ Ok is) where
      -- what is so on a map that agrees
      record Agreed (told : Told) (w : Map) (S : Session) : Type 0 where
        open_q : target_of w q ≡ Ok dir
        inodes : sources_of w ps ≡ Ok is
        files : Agree (files_keys b is) b w
        found : Found x.size told w S.tree ps is
        len : lens_of x.size b is ≡ length found.bytes

      agreed : (told : Told) (w : Map) (S : Session) → Agree (all_keys b q ps is) b w → Stands x.size told x.tx x.calls w S.tree → Agreed told w S
      agreed told w S agree st =
          let parts = Agree-parts (target_keys b q) (sources_keys b ps ++ files_keys b is) b w agree in
          let more = Agree-parts (sources_keys b ps) (files_keys b is) b w parts.1 in
          let inodes : sources_of w ps ≡ Ok is = sources-agree b w ps more.0 ∙ f in
          let found = sources-found x.size told x.tx x.calls w S.tree st ps is inodes in
          record {
            open_q = target-agrees b w q parts.0 ∙ e;
            inodes = inodes;
            files = more.1;
            found = found;
            len = lens_agree x.size told b w is found.bytes more.1 found.bodies;
          }

      pub concats_too_much : cap_for x < lens_of x.size b is → IsCall x b s s (only_keys (all_keys b q ps is)) (op.Concat q ps) (answer.Refused TooBig)
      concats_too_much past = stays x b s (all_keys b q ps is) (op.Concat q ps) (answer.Refused TooBig)
          (λ told w S agree st holds. gathered_all x.tx b w q ps is (agreed told w S agree st).inodes)
          (λ told w S agree st holds.
          let at = agreed told w S agree st in
          concat-big (cap_for x) S q ps at.found.bytes (target-free x.size told x.tx x.calls w S.tree st q dir at.open_q) at.found.sources_are
          (omega (arith, past, at.len)))

      module _ (new : InodeId) (out : List Piece) (ds : List FileEdit) (pos : 0 < x.size) (own : IsNewFor x new) (path : IsPath q)
          (fit : lens_of x.size b is ≤ cap_for x) (lists : List ListFact) (reads : ReadsFiles x.size b is lists out)
          (laid : LaysPieces x.size 0 new out ds) where
        abbrev concat_did : Did
        concat_did = gathers (all_keys b q ps is) (create_edits dir q new ++ edits_of new ds) lists

        concats_acts : DoneOnEach x b s s concat_did (op.Concat q ps) answer.Okay
        concats_acts = λ told w S agree fits facts told_lists st holds.
            let rest : Edits = edits_of new ds in
            let at = agreed told w S agree st in
            let bytes : List ℕ = at.found.bytes in
            let tell : PiecesTell told out bytes = plans_tell x.size told b w is out bytes pos at.files at.found.bodies
            (reads.plans (lists_in x.size told) told_lists) in
            let one : Map = made x told w s S st holds q dir new own path at.open_q in
            let full : Map = with rest one in
            let body = body_filled x.size told new ds one (pieces_len out) (pieces_origin out) bytes laid.lays tell
            (made_body x told w s S st holds q dir new own path at.open_q) in
            let told_bytes = with_bytes (is_told told) (is_listed x.size told) refl rest one (made_bytes x told w s S st holds q dir new own path at.open_q)
            (laid.names (is_told told) (is_listed x.size told) (told_pieces told out bytes tell)) in
            let done = filled_done x told w s S st holds q dir new own path at.open_q full bytes (edits_change new ds one) body told_bytes in
            let due : call (cap_for x) S (op.Concat q ps) ≡ record { session = add_file S q bytes; answer = answer.Okay } =
            concat-fits (cap_for x) S q ps bytes (target-free x.size told x.tx x.calls w S.tree st q dir at.open_q) at.found.sources_are
            (omega (arith, fit, at.len)) in
            subst (λ (m : Map). IsDone x told w m s (call (cap_for x) S (op.Concat q ps)) answer.Okay) (sym (with-append (create_edits dir q new) rest w))
            (subst (λ (d : Done). IsDone x told w full s d answer.Okay) (sym due) done)

        pub concats : IsCall x b s s concat_did (op.Concat q ps) answer.Okay
        concats =
            let edits : Edits = create_edits dir q new in
            let rest : Edits = edits_of new ds in
            record {
              fits = Fits-append key_cmp outcome_of edits rest b (create-made x b q dir new own.tx own.index path e s tt).fits
                  (fits_anywhere new ds (with edits b) (laid.lays.fit (file_of new (with edits b))));
              names = λ P Q hole map old stored named. record {
                edits = EditsBytes-append P Q edits rest (tt, (tt, (tt, tt))) (laid.names P Q (reads.names P Q hole map named));
                facts = tt;
                slices = old;
                lists = reads.slices P Q map;
              };
              acts = concats_acts;
              feet = λ told w S agree fits facts told_lists st holds.
                  let at = agreed told w S agree st in
                  made_feet x told w s S st holds q dir new own path at.open_q (all_keys b q ps is) rest (op.Concat q ps)
                  (gathered_all x.tx b w q ps is at.inodes) (edits_are_of new ds) refl
                  (sym (concats_acts told w S agree fits facts told_lists st holds).answer);
            }
