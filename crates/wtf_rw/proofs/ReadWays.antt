-- The way through a read, on all maps at once.
use Rattle.std.proofs.Common.{◌≡◌, ℕ, ◌+◌, ◌-◌, ◌*◌, ◌<◌, ◌≤◌, min, List, [], ◌++◌, length, get_or, Some, refl, sym, ap, ◌∙◌, subst, arith, zero-add}
use Rattle.wtf_base.specs.declared.ids.InodeId.{InodeId}
use Rattle.wtf_base.specs.declared.settings.Settings.{Settings}
use Rattle.wtf_dev.specs.Store.{StoreKind, KindLaws}
use Rattle.wtf_dev.specs.Each.{EachFollows}
use Rattle.wtf_kv.proofs.EditLaws.{Agree-parts}
use Rattle.wtf_overlay.specs.Origin.{Place, pieces_len, pieces_origin}
use Rattle.wtf_overlay.specs.Meaning.{meaning}
use Rattle.wtf_overlay.specs.declared.part.Piece.{Piece}
use Rattle.wtf_replica.specs.Bytes.{byte_at}
use Rattle.wtf_replica.proofs.Bytes.{byte_at-kept}
use Rattle.wtf_model.specs.declared.answer.Answer.TheVariants as answer
use Rattle.wtf_model.specs.declared.limits.TheConstants.{MAX_REGIONS}
use Rattle.wtf_model.specs.declared.op.Op.TheVariants as op
use Rattle.wtf_model.specs.Done.{Done, bytes_of_handle, moved, part}
use Rattle.wtf_model.specs.Call.{call}
use Rattle.wtf_model.specs.Items.{handle_reads}
use Rattle.wtf_model.proofs.CallLaws.{call-read}
use Rattle.wtf_values.specs.declared.key.Key.{Key}
use Rattle.wtf_meta.specs.declared.session.Handle.{Handle}
use Rattle.wtf_meta.specs.Lists.{ListFact, TellLists}
use Rattle.wtf_meta.specs.Maps.{Map}
use Rattle.wtf_meta.specs.Bytes.{MapBytes, PiecesBytes}
use Rattle.wtf_meta.specs.Contents.{Told, is_told, is_listed, lists_in, TellBytes, PiecesTell}
use Rattle.wtf_meta.specs.Files.{file_len}
use Rattle.wtf_meta.specs.Reads.{ReadsFile}
use Rattle.wtf_meta.specs.FileEdits.{file_of}
use Rattle.wtf_meta.specs.Appends.{FileKey, keys_of, length_keys, region_keys, touched}
use Rattle.wtf_meta.specs.Sessions.{SessionView, handle_in, SetsHandle, moved_to}
use Rattle.wtf_meta.specs.Calls.{Caller, cap_for, IsDone, IsCall}
use Rattle.wtf_meta.proofs.BodyReads.{body_length, body_read}
use Rattle.wtf_meta.proofs.FeetFiles.{handle_keys, looks_feet}
use Rattle.wtf_meta.proofs.FeetLaws.{EachRead-append}
use Rattle.wtf_meta.proofs.Handling.{holds-moved}
use Rattle.wtf_meta.proofs.Named.{file_bytes, pieces_named}
use Rattle.wtf_meta.proofs.Reading.{TellBytes-one}
use Rattle.wtf_meta.proofs.Standing.{stands-same}
use Rattle.wtf_meta.proofs.Telling.{TellsOn, TellLists-before, told_lists}
use Rattle.wtf_region.specs.declared.dev.Dev.{Dev}
use Rattle.wtf_region.specs.Devs.{GoesOn, told_in}
use Rattle.wtf_region.specs.Reads.{IsFileRead}
use Rattle.wtf_region.specs.Showing.{Shown, Gives, Reading}
use Rattle.wtf_region.proofs.ShowLaws.{told_stays, ShowsBytes-tell, shown_since}
use Rattle.wtf_steps.specs.Recorded.{found_in, len_keys}
use Rattle.wtf_steps.proofs.Ways.{on_file, KeysRead}
use Rattle.wtf_steps.proofs.FileWays.{file_len_cap}
use Rattle.wtf_steps.proofs.ReadWays.{shows, reads_due}
use Rattle.wtf_rw.specs.Reads.{TellsRead}

-- what a read records belongs to the bytes of its file
read_in : (x : Caller) (b : Map) (s : SessionView) (f n k : ℕ) (h : Handle) → handle_in s f ≡ Some h
    → KeysRead x b s (len_keys b h.inode ++ keys_of h.inode (region_keys (touched x.size h.off k))) (op.Read f n)
read_in x b s f n k h here = λ told w S agree st holds.
    let regions : List FileKey = region_keys (touched x.size h.off k) in
    EachRead-append x.tx w (handle_reads S f) (len_keys b h.inode) (keys_of h.inode regions)
    (handle_keys x told w s S holds f h here (length_keys (file_of h.inode b)) (op.Read f n) refl)
    (handle_keys x told w s S holds f h here regions (op.Read f n) refl)

pub reads_call : (x : Caller) (b : Map) (s t : SessionView) (f n k : ℕ) (h : Handle) (lists : List ListFact) (ps : List Piece) (bytes : List ℕ) → 0 < x.size
    → handle_in s f ≡ Some h
    → k ≡ found_in x.size b h n → ReadsFile x.size (file_of h.inode b) h.off k lists ps → length bytes ≡ k → SetsHandle f (Some (moved_to (h.off + k) h)) s t
    → IsCall x b s t (shows (len_keys b h.inode ++ keys_of h.inode (region_keys (touched x.size h.off k))) lists ps bytes) (op.Read f n) (answer.Shown bytes)
reads_call x b s t f n k h lists ps bytes pos here count reads len set = record {
  fits = refl;
  names = λ P Q hole map old stored named. record {
    edits = tt;
    facts = (reads.names P Q hole (file_bytes P Q h.inode b map) named, tt);
    slices = λ label qs e. old label qs (sym (set.slices label) ∙ e);
    lists = reads.slices P Q (file_bytes P Q h.inode b map);
  };
  acts = λ told w S agree fits facts tell st holds.
      let on = on_file x told w s S st holds f h here in
      let all : List ℕ = bytes_of_handle S on.handle in
      let parts = Agree-parts (len_keys b h.inode) (keys_of h.inode (region_keys (touched x.size h.off k))) b w agree in
      let whole : file_len x.size (file_of h.inode b) ≡ length all = body_length x.size told h.inode b w all parts.0 on.body in
      let low : length all ≤ MAX_REGIONS * x.size = subst (λ (m : ℕ). m ≤ MAX_REGIONS * x.size) on.body.bytes_are.len
      (file_len_cap x.size (file_of h.inode w) on.body.file) in
      let most : k ≡ min n (length all - h.off) = omega (arith, count, whole, low) in
      let read = body_read x.size told h.inode b w all h.off n k ps pos parts.1 on.body most (reads.plans (lists_in x.size told) tell) in
      let same : bytes ≡ part on.handle.off n all =
      TellBytes-one told (pieces_len ps) (pieces_origin ps) bytes (part h.off n all) facts.0 read ∙ ap (λ (o : ℕ). part o n all) (sym on.of.off) in
      let due : call (cap_for x) S (op.Read f n) ≡ record { session = moved S f on.handle (on.handle.off + length bytes); answer = answer.Shown bytes } =
      call-read (cap_for x) S f n on.handle on.there
      ∙ ap (λ (l : List ℕ). record { session = moved S f on.handle (on.handle.off + length l); answer = answer.Shown l }) (sym same) in
      let to : h.off + k ≡ on.handle.off + length bytes = omega (arith, on.of.off, len) in
      subst (λ (d : Done). IsDone x told w w t d (answer.Shown bytes)) (sym due) (record {
        answer = refl;
        stands = stands-same x.size told x.tx x.calls w S.tree st;
        holds = holds-moved told w s t S holds f (on.handle.off + length bytes) h on.handle
            (subst (λ (o : ℕ). SetsHandle f (Some (moved_to o h)) s t) to set) on.of;
        own = λ i other none. none;
      });
  feet = looks_feet x b s (shows (len_keys b h.inode ++ keys_of h.inode (region_keys (touched x.size h.off k))) lists ps bytes) (op.Read f n) refl
      (read_in x b s f n k h here);
}

-- what was shown is told, where all bytes of the map are, and the lists are those that it was read by
shown_tells : {S : Type 0} {kind : StoreKind S} → KindLaws kind → {old mid new : List S} → EachFollows kind old mid [] → EachFollows kind mid new []
    → (z : ℕ) (i : InodeId) (w : Map) (off k : ℕ) (lists : List ListFact) (ps : List Piece) (bytes : List ℕ)
    → ReadsFile z (file_of i w) off k lists ps → (shown : Shown (byte_at kind mid) k (λ j. pieces_origin ps (0 + j)) [] bytes)
    → MapBytes (is_told (byte_at kind old)) (is_listed z (byte_at kind old)) w → TellLists (lists_in z (byte_at kind new)) lists
    → PiecesTell (byte_at kind new) ps bytes
shown_tells {kind = kind} laws {old = old} {mid = mid} {new = new} first next z i w off k lists ps bytes reads shown map tell_lists =
    let told : Told = byte_at kind old in
    let on : TellsOn told (byte_at kind new) = λ p b is. byte_at-kept laws next p b tt (byte_at-kept laws first p b tt is) in
    let file = file_bytes (is_told told) (is_listed z told) i w map in
    let were : TellLists (lists_in z told) lists = TellLists-before told (byte_at kind new) z lists on
    (reads.slices (is_told told) (is_listed z told) file) tell_lists in
    let plans = reads.plans (lists_in z told) were in
    let since = shown_since laws first k (λ j. pieces_origin ps (0 + j)) [] bytes shown in
    let named : PiecesBytes (is_told told) ps = reads.names (is_told told) (is_listed z told) refl file (told_lists z told lists were) in
    let tell = ShowsBytes-tell told k (λ j. pieces_origin ps (0 + j)) since.bytes (λ j below. pieces_named (is_told told) ps (0 + j) named
    (omega (arith, below, plans.len))) since.are in
    let same : since.bytes ≡ bytes = sym since.more in
    let all : TellBytes told k (λ j. pieces_origin ps (0 + j)) bytes = subst (λ (l : List ℕ). TellBytes told k (λ j. pieces_origin ps (0 + j)) l) same tell in
    record {
      len = plans.len ∙ all.len;
      tells = λ j below.
          told_stays laws next (pieces_origin ps j) (get_or bytes j 0) (told_stays laws first (pieces_origin ps j) (get_or bytes j 0)
          (ap (λ (m : ℕ). meaning told (pieces_origin ps m)) (sym (zero-add j)) ∙ all.tells j (omega (arith, below, plans.len))));
    }

-- what is told by a read
pub tells_read : {S : Type 0} {kind : StoreKind S} → KindLaws kind → (old mid new : Dev S) → GoesOn kind old mid [] → GoesOn kind mid new []
    → (u b : Map) (i : InodeId) (h : Handle) (off from k : ℕ)
    → u ≡ b → i ≡ h.inode → off ≡ h.off → (0 < k → from ≡ off)
    → (ps : List Piece) (bytes : List ℕ) (keys : List Key) (read : IsFileRead kind old new (file_of i u) from k ps)
    → Shown (told_in kind mid) k (λ j. pieces_origin ps (0 + j)) [] bytes → TellsRead kind old new b (shows keys read.facts ps bytes)
tells_read {kind = kind} laws old mid new first next u b i h off from k map inode offs is ps bytes keys read shown =
    let due = reads_due old.settings.region u b h i off from k read.facts ps map inode offs is read.reads in
    record {
      stored = refl;
      slices = λ P Q named. due.slices P Q (file_bytes P Q h.inode b named);
      inside = read.inside;
      lists = read.told;
      told = λ named tell. (
        shown_tells laws first.each next.each old.settings.region h.inode b h.off k read.facts ps bytes due shown named
            (subst (λ (st : Settings). TellLists (lists_in st.region (told_in kind new)) read.facts) (next.settings ∙ first.settings) tell),
        tt,
      );
    }

pub shown_len : {reading : Reading} {k : ℕ} {f : ℕ → List Place} {bytes : List ℕ} → Gives reading k f [] bytes → length bytes ≡ k
shown_len shown = ap length shown.more ∙ shown.are.len
