use Rattle.wtf_clients.proofs.Common.{Settings, pieces_origin, Piece, Answer, MAX_REGIONS, TellLists, PiecesBytes, FileBytes, any_slice, is_told, is_listed}
use Rattle.wtf_clients.proofs.Common.{lists_in, Map, seen, file_len, file_origin, file_of, length_keys, file_bytes, TellLists-before, file_bytes_stay}
use Rattle.wtf_clients.proofs.Common.{are_apart, told_in, inside_of, between, IsFileRead, LacksRegion, Shown, IsShowFault, pieces_in}
use Rattle.wtf_clients.proofs.Common.{AreReadable, bases_in, readable_from, pieces_inside, file_read_later, recalls_later, recalls_same, still_seen}
use Rattle.wtf_clients.proofs.Common.{shown_since, goes_on, tells_on, ◌≡◌, ℕ}
use Rattle.wtf_clients.proofs.Common.{◌+◌, ◌*◌, min, List, [], refl, sym, ap, ◌∙◌, subst, arith, inl, inr}
use Rattle.wtf_clients.proofs.Dumping.{plans_whole, shows_file}
use Rattle.wtf_clients.proofs.dump.dump_file.Goals as goal

pub pieces-requires-clause-inside : goal.pieces-requires-clause-inside
pieces-requires-clause-inside g c =
    let kind = g.S.SliceStore.kind in
    let dev = c.args.dev.now in
    let i = c.args.inode in
    let b = seen c.args.kv.now c.args.at.now in
    let same : seen c.args.kv.now c.file_len.new.at ≡ b = still_seen c.args.kv.now i (length_keys (file_of i b)) c.args.at.now c.file_len.new.at
    c.in-Ok.ensures.recorded in
    subst (λ (w : Map). FileBytes (inside_of kind dev) any_slice (file_of i w)) (sym same) (file_bytes (inside_of kind dev) any_slice i b c.requires.inside)

pub returns-in-Err-pieces-clause-fault : goal.returns-in-Err-pieces-clause-fault
returns-in-Err-pieces-clause-fault g c =
    let kind = g.S.SliceStore.kind in
    let dev = c.args.dev.now in
    let i = c.args.inode in
    let b = seen c.args.kv.now c.args.at.now in
    let z = dev.settings.region in
    let k = c.min-n.result in
    let value = c.in-Ok.ensures.value in
    let low = c.if-len-gt-MAX_DUMPED.false in
    let same : seen c.args.kv.now c.file_len.new.at ≡ b = still_seen c.args.kv.now i (length_keys (file_of i b)) c.args.at.now c.file_len.new.at
    c.in-Ok.ensures.recorded in
    let count : k ≡ min (file_len z (file_of i b)) (MAX_REGIONS * z) = c.min-n.ensures ∙ ap (λ m. min m c.cap.result) value
    ∙ ap (min (file_len z (file_of i b))) c.cap.ensures in
    elim c.in-Err-pieces.ensures.fault [
      | inl memory ↦ inl memory
      | inr lacks ↦ inr (record {
        short = omega (arith, low, value);
        lacks = inl (subst (λ (m : ℕ). LacksRegion kind dev c.pieces.new.dev (file_of i b) 0 m c.in-Err-pieces.why) count
            (subst (λ (w : Map). LacksRegion kind dev c.pieces.new.dev (file_of i w) 0 k c.in-Err-pieces.why) same lacks));
      })
    ]

pub show-requires-clause-readable : goal.show-requires-clause-readable
show-requires-clause-readable g c =
    let kind = g.S.SliceStore.kind in
    let dev = c.args.dev.now in
    let mid = c.pieces.new.dev in
    let i = c.args.inode in
    let u = seen c.args.kv.now c.file_len.new.at in
    let b = seen c.args.kv.now c.args.at.now in
    let ps = c.in-Ok-pieces.found.items in
    let same : u ≡ b = still_seen c.args.kv.now i (length_keys (file_of i b)) c.args.at.now c.file_len.new.at c.in-Ok.ensures.recorded in
    let file : FileBytes (inside_of kind dev) any_slice (file_of i u) =
    subst (λ (w : Map). FileBytes (inside_of kind dev) any_slice (file_of i w)) (sym same) (file_bytes (inside_of kind dev) any_slice i b c.requires.inside) in
    let inside : PiecesBytes (inside_of kind mid) ps =
    pieces_inside g.met.S.SliceStore.laws c.requires.sound c.in-Ok-pieces.ensures.dev (file_of i u) file 0 c.min-n.result ps c.in-Ok-pieces.ensures.read in
    subst (λ (qs : List Piece). AreReadable kind mid qs) (sym c.as_slice.ensures.value) (readable_from kind mid ps c.in-Ok-pieces.ensures.dev.sound inside)

pub returns-in-Err-show-clause-fault : goal.returns-in-Err-show-clause-fault
returns-in-Err-show-clause-fault g c =
    let kind = g.S.SliceStore.kind in
    let dev = c.args.dev.now in
    let mid = c.pieces.new.dev in
    let i = c.args.inode in
    let u = seen c.args.kv.now c.file_len.new.at in
    let b = seen c.args.kv.now c.args.at.now in
    let z = dev.settings.region in
    let ps = c.in-Ok-pieces.found.items in
    let k = c.min-n.result in
    let value = c.in-Ok.ensures.value in
    let low = c.if-len-gt-MAX_DUMPED.false in
    let read = c.in-Ok-pieces.ensures.read in
    let same : u ≡ b = still_seen c.args.kv.now i (length_keys (file_of i b)) c.args.at.now c.file_len.new.at c.in-Ok.ensures.recorded in
    let count : k ≡ min (file_len z (file_of i b)) (MAX_REGIONS * z) = c.min-n.ensures ∙ ap (λ m. min m c.cap.result) value
    ∙ ap (min (file_len z (file_of i b))) c.cap.ensures in
    let file : FileBytes (inside_of kind dev) any_slice (file_of i u) =
    subst (λ (w : Map). FileBytes (inside_of kind dev) any_slice (file_of i w)) (sym same) (file_bytes (inside_of kind dev) any_slice i b c.requires.inside) in
    inr (record {
      short = omega (arith, low, value);
      lacks = inr (record {
        mid = mid;
        goes = c.in-Ok-pieces.ensures.dev;
        pieces = ps;
        are = subst (λ (m : ℕ). IsFileRead kind dev c.show.new.dev (file_of i b) 0 m ps) count
            (subst (λ (w : Map). IsFileRead kind dev c.show.new.dev (file_of i w) 0 k ps) same
            (file_read_later g.met.S.SliceStore.laws c.in-Ok-pieces.ensures.dev c.in-Err-show.ensures.dev c.in-Err-show.ensures.lists (file_of i u) 0 k ps
            read));
        inside = pieces_inside g.met.S.SliceStore.laws c.requires.sound c.in-Ok-pieces.ensures.dev (file_of i u) file 0 k ps read;
        fault = subst (λ (m : ℕ). IsShowFault kind (between mid c.show.new.dev) (pieces_in 0 m ps) c.in-Err-show.why) count
            (subst (λ (qs : List Piece). IsShowFault kind (between mid c.show.new.dev) (pieces_in 0 k qs) c.in-Err-show.why) c.as_slice.ensures.value
            c.in-Err-show.ensures.fault);
      });
    })

pub returns-in-Err-show-clause-dev : goal.returns-in-Err-show-clause-dev
returns-in-Err-show-clause-dev g c = goes_on g.met.S.SliceStore.laws c.in-Ok-pieces.ensures.dev c.in-Err-show.ensures.dev

pub returns-clause-dev : goal.returns-clause-dev
returns-clause-dev g c = goes_on g.met.S.SliceStore.laws c.in-Ok-pieces.ensures.dev c.in-Ok-show.ensures.dev

pub returns-clause-shows : goal.returns-clause-shows
returns-clause-shows g c cache map bytes body =
    let kind = g.S.SliceStore.kind in
    let laws = g.met.S.SliceStore.laws in
    let dev = c.args.dev.now in
    let mid = c.pieces.new.dev in
    let told = told_in kind dev in
    let later = told_in kind mid in
    let i = c.args.inode in
    let b = seen c.args.kv.now c.args.at.now in
    let z = dev.settings.region in
    let v = file_of i b in
    let ps = c.in-Ok-pieces.found.items in
    let k = c.min-n.result in
    let out = c.show.new.out.items in
    let value = c.in-Ok.ensures.value in
    let low = c.if-len-gt-MAX_DUMPED.false in
    let first = c.in-Ok-pieces.ensures.dev in
    let same : seen c.args.kv.now c.file_len.new.at ≡ b = still_seen c.args.kv.now i (length_keys (file_of i b)) c.args.at.now c.file_len.new.at
    c.in-Ok.ensures.recorded in
    let count : k ≡ min (file_len z v) (MAX_REGIONS * z) = c.min-n.ensures ∙ ap (λ m. min m c.cap.result) value ∙ ap (min (file_len z v)) c.cap.ensures in
    let read : IsFileRead kind dev mid v 0 k ps = subst (λ (w : Map). IsFileRead kind dev mid (file_of i w) 0 k ps) same c.in-Ok-pieces.ensures.read in
    let file : FileBytes (is_told told) (is_listed z told) v = file_bytes (is_told told) (is_listed z told) i b map in
    let any : FileBytes (is_told told) any_slice v = file_bytes_stay (is_told told) (is_told told) (λ qs is. is) (is_listed z told) any_slice (λ s is. refl) v
    file in
    let now : TellLists (lists_in mid.settings.region later) read.facts = read.told cache.0 cache.1 (read.reads.slices (is_told told) any_slice any)
    (read.reads.slices (are_apart cache.0) any_slice (file_bytes (are_apart cache.0) any_slice i b cache.2)) in
    let tell : TellLists (lists_in z told) read.facts =
    TellLists-before told later z read.facts (tells_on laws first.each) (read.reads.slices (is_told told) (is_listed z told) file)
    (subst (λ (st : Settings). TellLists (lists_in st.region later) read.facts) first.settings now) in
    let shown : Shown later k (λ j. pieces_origin ps (0 + j)) [] out =
    subst (λ (old : List ℕ). Shown later k (λ j. pieces_origin ps (0 + j)) old out) c.new-out.ensures.items
    (subst (λ (qs : List Piece). Shown later k (λ j. pieces_origin qs (0 + j)) c.new-out.result.items out) c.as_slice.ensures.value
    c.in-Ok-show.ensures.shown) in
    ap Answer.Shown c.of.ensures
    ∙ shows_file told z v ps k bytes out count (omega (arith, low, value)) body.file body.bytes_are
    (plans_whole ps k (file_origin z (lists_in z told) v) (read.reads.plans (lists_in z told) tell))
    (shown_since laws first.each k (λ j. pieces_origin ps (0 + j)) [] out shown)

pub returns-then-len-gt-MAX_DUMPED-clause-read : goal.returns-then-len-gt-MAX_DUMPED-clause-read
returns-then-len-gt-MAX_DUMPED-clause-read g c =
    record { facts = []; recalls = recalls_same g.S.SliceStore.kind c.args.dev.now c.args.dev.now refl; wants = refl }

pub returns-clause-read : goal.returns-clause-read
returns-clause-read g c =
    let i = c.args.inode in
    let b = seen c.args.kv.now c.args.at.now in
    let z = c.args.dev.now.settings.region in
    let k = c.min-n.result in
    let read = c.in-Ok-pieces.ensures.read in
    let same : seen c.args.kv.now c.file_len.new.at ≡ b = still_seen c.args.kv.now i (length_keys (file_of i b)) c.args.at.now c.file_len.new.at
    c.in-Ok.ensures.recorded in
    let count : k ≡ min (file_len z (file_of i b)) (MAX_REGIONS * z) = c.min-n.ensures ∙ ap (λ m. min m c.cap.result) c.in-Ok.ensures.value
    ∙ ap (min (file_len z (file_of i b))) c.cap.ensures in
    record {
      facts = read.facts;
      recalls = recalls_later g.met.S.SliceStore.laws c.in-Ok-pieces.ensures.dev c.in-Ok-show.ensures.dev read.facts read.recalls c.in-Ok-show.ensures.lists;
      wants = read.wants ∙ ap (λ (w : Map). bases_in z (file_of i w) 0 k) same ∙ ap (bases_in z (file_of i b) 0) count;
    }
