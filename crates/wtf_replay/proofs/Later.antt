-- What stores that go on still tell, and still hold.
use Rattle.std.proofs.Common.{◌≡◌, ℕ, ◌<◌, Bool, true, List, [], length, Option, Some, None, get_or, sym, ◌∙◌, subst, arith}
use Rattle.wtf_base.specs.declared.settings.Settings.{Settings}
use Rattle.wtf_base.specs.declared.slice.Slice.{Slice}
use Rattle.wtf_dev.specs.Store.{Range, StoreKind, KindLaws}
use Rattle.wtf_dev.specs.Each.{EachFollows}
use Rattle.wtf_dev.specs.Sums.{TellsAll}
use Rattle.wtf_overlay.specs.Origin.{Place}
use Rattle.wtf_model.specs.declared.answer.Answer.{Answer}
use Rattle.wtf_model.specs.declared.op.Op.{Op}
use Rattle.wtf_model.specs.Tree.{Tree, TreeNode, Dir, File}
use Rattle.wtf_values.specs.declared.key.Key.TheVariants.{Path}
use Rattle.wtf_values.specs.declared.value.Value.{Value}
use Rattle.wtf_values.specs.declared.value.Value.TheVariants as value
use Rattle.wtf_values.specs.declared.value.Node.TheVariants.{Folder, File as FileNode}
use Rattle.wtf_meta.specs.Bytes.{MapBytes}
use Rattle.wtf_meta.specs.Contents.{Told, is_told, is_listed, lists_in}
use Rattle.wtf_meta.specs.FileEdits.{file_of}
use Rattle.wtf_meta.specs.Maps.{Map}
use Rattle.wtf_meta.specs.Trees.{NodeAt, Stands}
use Rattle.wtf_meta.proofs.ListTests.{has_list, list_has-true}
use Rattle.wtf_meta.proofs.Named.{file_bytes}
use Rattle.wtf_meta.proofs.Telling.{TellsOn, HasBytes-later, is_told-later, is_listed-later, lists_in-later}
use Rattle.wtf_meta.proofs.Weaker.{map_stays}
use Rattle.wtf_region.specs.declared.dev.Dev.{Dev}
use Rattle.wtf_region.specs.Apart.{are_apart}
use Rattle.wtf_region.specs.Devs.{GoesOn, told_in}
use Rattle.wtf_replay.specs.Insides.{IsKnown, lists_have}
use Rattle.wtf_replay.specs.Views.{TxnView}
use Rattle.wtf_replay.specs.Sounds.{TellsMap}
use Rattle.wtf_replay.specs.Replays.{DeviatesOn}
pub use Rattle.wtf_region.proofs.Frames.{tells_on}

node_later : (b : ℕ) (told later : Told) (w : Map) (v : Option Value) (o : Option TreeNode) → TellsOn told later → MapBytes (is_told told) (is_listed b told) w
    → NodeAt b told w v o → NodeAt b later w v o
node_later b told later w None None on map h = h
node_later b told later w None (Some n) on map h = absurd h
node_later b told later w (Some (value.Node Folder)) (Some Dir) on map h = h
node_later b told later w (Some (value.Node (FileNode i))) (Some (File paths bytes)) on map h =
    record {
      body = record {
        has = h.body.has;
        file = h.body.file;
        bytes_are = HasBytes-later told later b on (file_of i w) bytes
            (file_bytes (is_told told) (is_listed b told) i w map) h.body.bytes_are;
      };
      lead = h.lead;
      all = h.all;
      count = h.count;
    }
node_later b told later w (Some (value.Node Folder)) (Some (File paths bytes)) on map h = absurd h
node_later b told later w (Some (value.Node (FileNode i))) (Some Dir) on map h = absurd h
node_later b told later w (Some (value.Node Folder)) None on map h = absurd h
node_later b told later w (Some (value.Node (FileNode i))) None on map h = absurd h
node_later b told later w (Some (value.Names ns)) o on map h = absurd h
node_later b told later w (Some (value.Count n)) o on map h = absurd h
node_later b told later w (Some (value.Last r)) o on map h = absurd h
node_later b told later w (Some (value.Region v)) o on map h = absurd h

-- a map stands for its tree over stores that tell more
pub stands_later : (b : ℕ) (told later : Told) (tx k : ℕ) (w : Map) (t : Tree) → TellsOn told later → Stands b told tx k w t → Stands b later tx k w t
stands_later b told later tx k w t on st = record {
  tree_is = st.tree_is;
  nodes = λ p. node_later b told later w (w (Path p)) _ on st.bytes (st.nodes p);
  names = st.names;
  led = st.led;
  regions = st.regions;
  counted = st.counted;
  bytes = map_stays (is_told told) (is_told later) (λ places h. is_told-later told later places on h) (is_listed b told) (is_listed b later)
      (λ s h. is_listed-later told later b s on h) w st.bytes;
  fresh = st.fresh;
  few = st.few;
}

-- so calls that deviate over later stores deviate over the earlier ones
pub deviates_since : (w : Map) (size : ℕ) (told later : Told) (x : TxnView) (ops : List (Op (List ℕ))) (i : ℕ) (a : Answer) → TellsOn told later
    → DeviatesOn w size later x ops i a → DeviatesOn w size told x ops i a
deviates_since w size told later x ops i a on h t st = h t (stands_later size told later x.tx 0 w t on st)

-- stores that tell their content go on doing so
pub tells_all_on : {S : Type 0} {kind : StoreKind S} → KindLaws kind → {old new : List S} → EachFollows kind old new [] → TellsAll kind old → TellsAll kind new
tells_all_on {S} {kind} laws {old} {new} each tells k d h =
    let below : k < length old = omega (arith, h, each.same_length) in
    (laws.keeps (get_or old k d) (get_or new k d) [] (each.each k d below)).tells ∙ tells k d below

-- what is told of a test of bytes and one of bases
abbrev pub Of : Type 1
Of = (List Place → Bool) → (Slice → Bool) → Type 0

-- it goes on holding of tests that more pass
abbrev pub IsWeaker : Of → Type 0
IsWeaker F =
    (P R : List Place → Bool) → ((qs : List Place) → P qs ≡ true → R qs ≡ true) → (Q O : Slice → Bool) → ((s : Slice) → Q s ≡ true → O s ≡ true) → F P Q → F R O

-- the lists of slices are what they were, where they were told
lists_have-later : (b : ℕ) (told later : Told) (P : List Place → Bool) (s : Slice) → TellsOn told later → lists_have b told P s ≡ true
    → lists_have b later P s ≡ true
lists_have-later b told later P s on h =
    let was = has_list P (lists_in b told s) h in
    list_has-true P (lists_in b later s) was.0 (lists_in-later told later b s was.0 on was.1) was.2

-- what is known goes on being known
pub known_later : {S : Type 0} {kind : StoreKind S} → KindLaws kind → {old new : Dev S} → GoesOn kind old new [] → (F : Of) → IsWeaker F
    → (ranges : List (ℕ × Range)) → IsKnown kind old ranges F → IsKnown kind new ranges F
known_later {kind = kind} laws {old = old} {new = new} goes F weaker ranges known =
    let told : Told = told_in kind old in
    let now : Told = told_in kind new in
    let z = old.settings.region in
    let y = new.settings.region in
    let away = are_apart ranges in
    let on : TellsOn told now = tells_on laws goes.each in
    let listed : (s : Slice) → is_listed z told s ≡ true → is_listed y now s ≡ true =
    λ s is. subst (λ (st : Settings). is_listed st.region now s ≡ true) (sym goes.settings) (is_listed-later told now z s on is) in
    let has : (s : Slice) → lists_have z told away s ≡ true → lists_have y now away s ≡ true =
    λ s is. subst (λ (st : Settings). lists_have st.region now away s ≡ true) (sym goes.settings) (lists_have-later z told now away s on is) in (
      weaker (is_told told) (is_told now) (λ qs is. is_told-later told now qs on is) (is_listed z told) (is_listed y now) listed known.0,
      weaker away away (λ qs is. is) (lists_have z told away) (lists_have y now away) has known.1,
    )

map_weaker : (w : Map) → IsWeaker (λ P Q. MapBytes P Q w)
map_weaker w P R places Q O slices h = map_stays P R places Q O slices w h

pub tells_map_on : {S : Type 0} {kind : StoreKind S} → KindLaws kind → {old new : Dev S} → GoesOn kind old new [] → (ranges : List (ℕ × Range)) (w : Map)
    → TellsMap kind old ranges w → TellsMap kind new ranges w
tells_map_on laws goes ranges w tells =
    let known = known_later laws goes (λ P Q. MapBytes P Q w) (map_weaker w) ranges (tells.map, tells.away) in
    record { all = tells_all_on laws goes.each tells.all; map = known.0; cache = goes.lists ranges tells.cache; away = known.1 }
