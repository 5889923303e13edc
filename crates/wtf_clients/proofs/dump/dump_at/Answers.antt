use Rattle.wtf_clients.proofs.Common.{Folder, file_of, Map, Edits, with, metadata_at, seen, stands_at, told_in, RemembersTrue, untouched, IsShownFile}
use Rattle.wtf_clients.proofs.Common.{LacksFile, ReadsBases, dump_bases_of, file_bases, NoEnt, IsDir, ◌≡◌, [], None, Some, sym, ap, ◌∙◌, ◌++◌, subst, inl, inr}
use Rattle.wtf_values.specs.declared.value.Node.TheVariants.{File}
use Rattle.wtf_clients.proofs.Dumping.{dumps_none, dumps_folder, dumps_file, no_bases}
use Rattle.wtf_clients.proofs.dump.dump_at.Given.{Over}
use Rattle.wtf_clients.proofs.dump.dump_at.Goals as goal
use Rattle.wtf_clients.proofs.dump.dump_at.Goals.{After-dump_file}

pub returns-in_default-clause-shows : goal.returns-in_default-clause-shows
returns-in_default-clause-shows g c =
    let kv = c.args.kv.now in
    let dev = c.args.dev.now in
    let w = metadata_at kv c.args.number in
    let first : c.in-Ok.at ≡ untouched c.args.number = let e = c.in-Ok.ensures in cc in
    let there : stands_at w c.args.p.now ≡ None = sym (ap (λ a. stands_at (seen kv a) c.args.p.now) first) ∙ sym c.in-Ok-look_up.ensures.value
    ∙ c.in_default.is in
    dumps_none dev.settings.region (told_in g.S.SliceStore.kind dev) (RemembersTrue g.S.SliceStore.kind dev) w c.args.p.now there

pub returns-in-Folder-clause-shows : goal.returns-in-Folder-clause-shows
returns-in-Folder-clause-shows g c =
    let kv = c.args.kv.now in
    let dev = c.args.dev.now in
    let w = metadata_at kv c.args.number in
    let first : c.in-Ok.at ≡ untouched c.args.number = let e = c.in-Ok.ensures in cc in
    let there : stands_at w c.args.p.now ≡ Some Folder = sym (ap (λ a. stands_at (seen kv a) c.args.p.now) first) ∙ sym c.in-Ok-look_up.ensures.value
    ∙ (c.in-Some.is ∙ ap Some c.in-Folder.is) in
    dumps_folder dev.settings.region (told_in g.S.SliceStore.kind dev) (RemembersTrue g.S.SliceStore.kind dev) w c.args.p.now there

-- a file stands at the path, and the map at the number is what was seen
module _ (g : Over) (c : After-dump_file g) where
  first : c.in-Ok.at ≡ untouched c.args.number
  first = let e = c.in-Ok.ensures in cc

  file_there : stands_at (metadata_at c.args.kv.now c.args.number) c.args.p.now ≡ Some (File c.in-File.inode)
  file_there = sym (ap (λ a. stands_at (seen c.args.kv.now a) c.args.p.now) first) ∙ sym c.in-Ok-look_up.ensures.value ∙ (c.in-Some.is ∙ ap Some c.in-File.is)

  map_same : seen c.args.kv.now c.look_up.new.at ≡ metadata_at c.args.kv.now c.args.number
  map_same =
      let kv = c.args.kv.now in
      let at = c.look_up.new.at in
      let went = c.in-Ok-look_up.ensures.went in
      let base : at.base ≡ c.args.number = went.base ∙ ap (λ a. a.base) first in
      let changes : at.changes ≡ [] = went.changes ∙ ap (λ a. a.changes ++ []) first in
      ap (λ (cs : Edits). with cs (metadata_at kv at.base)) changes ∙ ap (metadata_at kv) base

pub returns-in-Ok-dump_file-clause-shows : goal.returns-in-Ok-dump_file-clause-shows
returns-in-Ok-dump_file-clause-shows g c =
    let here = (goal.at.returns-in-Ok-dump_file-clause-shows g c).After-dump_file in
    let dev = c.args.dev.now in
    let told = told_in g.S.SliceStore.kind dev in
    let w = metadata_at c.args.kv.now c.args.number in
    let i = c.in-File.inode in
    dumps_file dev.settings.region told (RemembersTrue g.S.SliceStore.kind dev) w c.args.p.now i c.in-Ok-dump_file.answer (file_there g here)
    (subst (λ (v : Map). IsShownFile dev.settings.region told (RemembersTrue g.S.SliceStore.kind dev) v i c.in-Ok-dump_file.answer) (map_same g here)
    c.in-Ok-dump_file.ensures.shows)

pub returns-in-Err-dump_file-clause-fault : goal.returns-in-Err-dump_file-clause-fault
returns-in-Err-dump_file-clause-fault g c =
    let here = (goal.at.returns-in-Err-dump_file-clause-fault g c).After-dump_file in
    let i = c.in-File.inode in
    elim c.in-Err-dump_file.ensures.fault [
      | inl memory ↦ inl memory
      | inr lacks ↦ inr (record {
        inode = i;
        there = file_there g here;
        file = subst (λ (v : Map). LacksFile g.S.SliceStore.kind c.args.dev.now c.dump_file.new.dev (file_of i v) c.in-Err-dump_file.why) (map_same g here)
            lacks;
      })
    ]

pub returns-in_default-clause-read : goal.returns-in_default-clause-read
returns-in_default-clause-read g c = no_bases g.S.SliceStore.kind c.args.dev.now (metadata_at c.args.kv.now c.args.number) c.args.p.now NoEnt

pub returns-in-Folder-clause-read : goal.returns-in-Folder-clause-read
returns-in-Folder-clause-read g c = no_bases g.S.SliceStore.kind c.args.dev.now (metadata_at c.args.kv.now c.args.number) c.args.p.now IsDir

pub returns-in-Ok-dump_file-clause-read : goal.returns-in-Ok-dump_file-clause-read
returns-in-Ok-dump_file-clause-read g c =
    let here = (goal.at.returns-in-Ok-dump_file-clause-read g c).After-dump_file in
    let kind = g.S.SliceStore.kind in
    let dev = c.args.dev.now in
    let new = c.dump_file.new.dev in
    let size = dev.settings.region in
    let a = c.in-Ok-dump_file.answer in
    subst (λ o. ReadsBases kind dev new (dump_bases_of size (metadata_at c.args.kv.now c.args.number) o a)) (sym (file_there g here))
    (subst (λ (v : Map). ReadsBases kind dev new (file_bases size (file_of c.in-File.inode v) a)) (map_same g here) c.in-Ok-dump_file.ensures.read)

pub returns-in-Ok-dump_file-clause-lists : goal.returns-in-Ok-dump_file-clause-lists
returns-in-Ok-dump_file-clause-lists g c =
    λ none. absurd (none c.in-File.inode (file_there g (goal.at.returns-in-Ok-dump_file-clause-lists g c).After-dump_file))

pub returns-in-Err-dump_file-clause-lists : goal.returns-in-Err-dump_file-clause-lists
returns-in-Err-dump_file-clause-lists g c =
    λ none. absurd (none c.in-File.inode (file_there g (goal.at.returns-in-Err-dump_file-clause-lists g c).After-dump_file))
