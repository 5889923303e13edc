-- The lists of bases that a call read.
use Rattle.std.proofs.Common.{◌≡◌, ℕ, Bool, List, [], Option, refl, sym, subst}
use Rattle.std.specs.List.{All}
use Rattle.std.proofs.lemmas.List.Elements.{All-nil}
use Rattle.wtf_base.specs.declared.slice.Slice.{Slice}
use Rattle.wtf_dev.specs.Store.{Range}
use Rattle.wtf_overlay.specs.Origin.{Place}
use Rattle.wtf_meta.specs.Lists.{ListFact, TellLists}
use Rattle.wtf_meta.specs.Bytes.{MapBytes, EntryBytes, ListSlices, any_slice}
use Rattle.wtf_meta.specs.Contents.{Told, is_told, is_listed, lists_in}
use Rattle.wtf_meta.specs.Maps.{Map}
use Rattle.wtf_meta.specs.Sessions.{SessionView}
use Rattle.wtf_meta.specs.Calls.{Did}
use Rattle.wtf_meta.proofs.Weaker.{map_stays}
use Rattle.wtf_region.specs.Apart.{are_apart}
use Rattle.wtf_region.specs.Devs.{told_in, inside_of, RemembersTrue}
use Rattle.wtf_region.specs.Reads.{TellsFacts, AreInsideLists}
use Rattle.wtf_steps.specs.Scenes.{Scene}
use Rattle.wtf_rw.specs.declared.op.Given.TheVariants.{Fresh}
use Rattle.wtf_rw.specs.declared.op.RwOp.{RwOp}
use Rattle.wtf_rw.specs.declared.op.RwOp.TheVariants as rw
use Rattle.wtf_rw.specs.Ops.{DoesRw}
use Rattle.wtf_slicing.specs.declared.op.SliceOp.{SliceOp}
use Rattle.wtf_slicing.specs.declared.op.SliceOp.TheVariants.{Yank, Concat}
use Rattle.wtf_slicing.specs.Ops.{DoesSlice}
use Rattle.wtf_replay.specs.Insides.{IsKnown, lists_have}
use Rattle.wtf_replay.specs.Sounds.{TellsMap}

-- they name only bytes inside the stores; and over a cache that was true they are those of their slices, where all is known of
-- the map that the call saw
pub record ReadBy {S : Type 0} (sc : Scene S) (lists : List ListFact) : Type 0 where
  pub inside : AreInsideLists sc.kind sc.after lists
  pub told : (ranges : List (ℕ × Range)) → RemembersTrue sc.kind sc.before ranges
      → IsKnown sc.kind sc.before ranges (λ P Q. MapBytes P Q sc.map) → TellLists (lists_in sc.after.settings.region (told_in sc.kind sc.after)) lists

read_none : {S : Type 0} (sc : Scene S) (lists : List ListFact) → lists ≡ [] → ReadBy sc lists
read_none sc lists none = subst (ReadBy sc) (sym none) (record {
  inside = All-nil (λ (f : ListFact). All (EntryBytes (inside_of sc.kind sc.after)) f.list);
  told = λ ranges cache known. tt;
})

any_base : (P : List Place → Bool) (Q : Slice → Bool) (w : Map) → MapBytes P Q w → MapBytes P any_slice w
any_base P Q w h = map_stays P P (λ places has. has) Q any_slice (λ s is. refl) w h

-- those of bases of the map
read_bases : {S : Type 0} (sc : Scene S) (lists : List ListFact) → ((P : List Place → Bool) (Q : Slice → Bool) → MapBytes P Q sc.map → ListSlices P Q lists)
    → AreInsideLists sc.kind sc.after lists
    → TellsFacts sc.kind sc.before sc.after lists → ReadBy sc lists
read_bases sc lists slices inside facts =
    let told : Told = told_in sc.kind sc.before in
    let z = sc.before.settings.region in
    record {
      inside = inside;
      told = λ ranges cache known.
          let away = are_apart ranges in
          facts ranges cache (slices (is_told told) any_slice (any_base (is_told told) (is_listed z told) sc.map known.0))
          (slices away any_slice (any_base away (lists_have z told away) sc.map known.1));
    }

pub rw_read : {S : Type 0} (sc : Scene S) (r : RwOp) (own : Option Slice) (bytes : List ℕ) (did : Did) → DoesRw sc r own bytes did → ReadBy sc did.lists
rw_read sc (rw.Read f n) own bytes did does = read_bases sc did.lists does.0.slices does.0.inside does.0.lists
rw_read sc (rw.Write f (Fresh bs)) own bytes did does = read_none sc did.lists does.lists
rw_read sc (rw.Append f (Fresh bs)) own bytes did does = read_none sc did.lists does.lists
rw_read sc r own bytes did does = read_none sc did.lists does.0.lists

pub slice_read : {S : Type 0} (sc : Scene S) (s : SessionView) (r : SliceOp) (did : Did) → DoesSlice sc s r did → ReadBy sc did.lists
slice_read sc s (Yank f n l) did does = read_bases sc did.lists does.slices does.inside does.lists
slice_read sc s (Concat q paths) did does = read_bases sc did.lists does.slices does.inside does.lists
slice_read sc s r did does = read_none sc did.lists does.lists

-- over stores that tell the map they are those of their slices
pub read_told : {S : Type 0} (sc : Scene S) (lists : List ListFact) → ReadBy sc lists → (ranges : List (ℕ × Range)) → TellsMap sc.kind sc.before ranges sc.map
    → TellLists (lists_in sc.after.settings.region (told_in sc.kind sc.after)) lists
read_told sc lists read ranges tells = read.told ranges tells.cache (tells.map, tells.away)
