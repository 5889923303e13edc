-- What one call more makes of a disk in memory.
use Rattle.std.specs.Prelude.{◌≡◌, ◌≢◌, ℕ, ◌+◌, ◌-◌, ◌<◌, ◌≤◌, ◌^◌, Bool, true, false, min, max, replicate, List, [], ◌∷◌, ◌++◌, length, take, slice_index_or, refl, Vec, Result, Ok, Err, OnOk}
use Rattle.std.specs.Result.{is_err}
use Rattle.std.specs.declared.alloc.Global.{Global}
use Rattle.std.proofs.Common.{arith, ◌∙◌, sym, ap, subst, inl, inr, cond, length-append, append-nil, drop_of_length-le, get_or, set, get_or-set_same, get_or-set_other}
use Rattle.std.proofs.lemmas.Bool.{cases_eq, cases_lt, eq-eqb, ne_eqb}
use Rattle.std.proofs.lemmas.List.{take-append-le, take_all}
use Rattle.wtf_dev.specs.Calls.{CallCounts, IsCounted}
use Rattle.wtf_dev.specs.Disk.{IsFileImage, IsSettled, Pends, Elapses, DiskGoesOn, DiskWrites, DiskSyncs, overwritten}
use Rattle.wtf_dev.specs.declared.disk_call.DiskCall.{DiskCall}
use Rattle.wtf_dev.specs.declared.disk_call.DiskCall.TheVariants as call
use Rattle.wtf_dev.specs.DiskTape.{FileState, DiskState, HoldsNow, IsEntered, IsNoted, LeftSince, NotesSync, NotesWrite, call_file, file_settled, file_spoiled, file_written, file_after, file_after_all, disk_file, file_view, mem_disk}
use Rattle.wtf_dev.specs.DiskTapeLaws.{AreImages, images_now, outside_same, told_over, length-overwritten, many}

after_more : (f : ℕ) (s : FileState) (xs : List DiskCall) (x : DiskCall) → file_after_all f s (xs ++ x ∷ []) ≡ file_after f (file_after_all f s xs) x
after_more f s [] x = refl
after_more f s (y ∷ xs) x = after_more f (file_after f s y) xs x

after_elsewhere : (f : ℕ) (s : FileState) (x : DiskCall) → f ≢ call_file x → file_after f s x ≡ s
after_elsewhere f s (call.Wrote file at bytes) ne = ap (λ b. cond b (file_written at bytes.items s) s) (ne_eqb file f (λ e. ne (sym e)))
after_elsewhere f s (call.Spoiled file at len) ne = ap (λ b. cond b (file_spoiled at len s) s) (ne_eqb file f (λ e. ne (sym e)))
after_elsewhere f s (call.Settled file) ne = ap (λ b. cond b (file_settled s.seen) s) (ne_eqb file f (λ e. ne (sym e)))

after_write : (file at : ℕ) (v : Vec ℕ Global) (s : FileState) → file_after file s (call.Wrote file at v) ≡ file_written at v.items s
after_write file at v s = ap (λ b. cond b (file_written at v.items s) s) (eq-eqb file file refl)

after_spoil : (file at n : ℕ) (s : FileState) → file_after file s (call.Spoiled file at n) ≡ file_spoiled at n s
after_spoil file at n s = ap (λ b. cond b (file_spoiled at n s) s) (eq-eqb file file refl)

after_sync : (file : ℕ) (s : FileState) → file_after file s (call.Settled file) ≡ file_settled s.seen
after_sync file s = ap (λ b. cond b (file_settled s.seen) s) (eq-eqb file file refl)

-- a file behind one call more
pub file_next : (old new : List DiskCall) (x : DiskCall) → new ≡ old ++ x ∷ [] → (f : ℕ) → disk_file new f ≡ file_after f (disk_file old f) x
file_next old new x is f = ap (λ (l : List DiskCall). disk_file l f) is ∙ after_more f (file_settled []) old x

file_still : (old new : List DiskCall) (x : DiskCall) → new ≡ old ++ x ∷ [] → (f : ℕ) → f ≢ call_file x → disk_file new f ≡ disk_file old f
file_still old new x is f ne = file_next old new x is f ∙ after_elsewhere f (disk_file old f) x ne

-- an empty file was written, and then synced
pub file_restored : (old mid new : List DiskCall) (file : ℕ) (bytes : List ℕ) → disk_file old file ≡ file_settled [] → NotesWrite file 0 bytes old mid
    → NotesSync file mid new
    → disk_file new file ≡ file_settled bytes
file_restored old mid new file bytes empty wrote synced =
    let seen : (disk_file mid file).seen ≡ bytes =
    ap (λ (z : FileState). z.seen) (file_next old mid (call.Wrote file 0 wrote.0) wrote.2 file ∙ after_write file 0 wrote.0 (disk_file old file))
    ∙ ap (λ (z : FileState). overwritten z.seen 0 wrote.0.items) empty
    ∙ ap (λ (l : List ℕ). wrote.0.items ++ l) (drop_of_length-le [] {i = 0 + length wrote.0.items} (omega arith))
    ∙ append-nil wrote.0.items
    ∙ wrote.1
    in
    file_next mid new (call.Settled file) synced file ∙ after_sync file (disk_file mid file) ∙ ap file_settled seen

pub restored_still : (old mid new : List DiskCall) (file : ℕ) (bytes : List ℕ) → NotesWrite file 0 bytes old mid → NotesSync file mid new
    → (f : ℕ) → f ≢ file → disk_file new f ≡ disk_file old f
restored_still old mid new file bytes wrote synced f ne =
    file_still mid new (call.Settled file) synced f ne ∙ file_still old mid (call.Wrote file 0 wrote.0) wrote.2 f ne

-- two states with the same calls
module _ (old new : DiskState) (is : new.noted ≡ old.noted) where
  elapses_still : Elapses mem_disk old new
  elapses_still = record {
    leaves = record {
      later = omega (arith, ap length is);
      since = λ t c le left. inl (subst (λ (l : List DiskCall). LeftSince (record { noted = l; counts = old.counts; fuse = old.fuse }) t c) is left);
    };
    keeps = λ t c le left. subst (λ (l : List DiskCall). LeftSince (record { noted = l; counts = old.counts; fuse = old.fuse }) t c) (sym is) left;
  }

  still : (f : ℕ) → disk_file new.noted f ≡ disk_file old.noted f
  still f = ap (λ (l : List DiskCall). disk_file l f) is

  goes_still : old.counts.faults ≤ new.counts.faults → DiskGoesOn mem_disk old new
  goes_still le = record { faults = le; size = λ f. omega (arith, ap (λ (s : FileState). length s.seen) (still f)); tells = refl }

  writes_nothing : (file at n : ℕ) → old.counts.faults ≤ new.counts.faults → DiskWrites mem_disk file at n old new
  writes_nothing file at n le = record {
    goes_on = goes_still le;
    grows = record {
      most = omega (arith, ap (λ (s : FileState). length s.seen) (still file));
      others = λ f ne. ap (λ (s : FileState). length s.seen) (still f);
    };
    pending = λ tells. subst (λ (s : FileState). Pends at n (file_view (disk_file old.noted file)) (file_view s)) (sym (still file))
        (record { told = λ i b out t. t; seen = λ i b out t. t; least = omega arith; most = omega arith });
    elsewhere = λ tells f ne. ap file_view (still f);
    time = λ tells. elapses_still;
  }

  syncs_nothing : (file : ℕ) → old.counts.faults ≤ new.counts.faults → DiskSyncs mem_disk file old new
  syncs_nothing file le = record {
    goes_on = goes_still le;
    sizes = λ f. ap (λ (s : FileState). length s.seen) (still f);
    elsewhere = λ tells f ne. ap file_view (still f);
    time = λ tells. elapses_still;
  }

-- one call more
module _ (old new : DiskState) (x : DiskCall) (is : new.noted ≡ old.noted ++ x ∷ []) where
  longer : length new.noted ≡ length old.noted + 1
  longer = omega (arith, ap length is, length-append old.noted (x ∷ []))

  before : (k f : ℕ) → k ≤ length old.noted → disk_file (take k new.noted) f ≡ disk_file (take k old.noted) f
  before k f le = ap (λ (l : List DiskCall). disk_file l f) (ap (take k) is ∙ take-append-le k old.noted (x ∷ []) le)

  at_end : (k f : ℕ) → length new.noted ≤ k → disk_file (take k new.noted) f ≡ disk_file new.noted f
  at_end k f le = ap (λ (l : List DiskCall). disk_file l f) (take_all k new.noted le)

  elapses_more : Elapses mem_disk old new
  elapses_more = record {
    leaves = record {
      later = omega (arith, longer);
      since = λ t c le left. elim (cases_lt (length old.noted) left.0) [
        | inl end ↦ inr (λ f. subst (λ (s : FileState). IsFileImage (file_view s) (c f)) (at_end left.0 f (omega (arith, end, longer))) (left.3 f))
        | inr early ↦ inl (left.0, left.1, early, λ f. subst (λ (s : FileState). IsFileImage (file_view s) (c f)) (before left.0 f early) (left.3 f))
      ];
    };
    keeps = λ t c le left. (
      left.0,
      left.1,
      omega (arith, left.2, longer),
      λ f. subst (λ (s : FileState). IsFileImage (file_view s) (c f)) (sym (before left.0 f left.2)) (left.3 f),
    );
  }

  now_is : (f : ℕ) → disk_file new.noted f ≡ file_after f (disk_file old.noted f) x
  now_is f = file_next old.noted new.noted x is f

  elsewhere : (f : ℕ) → f ≢ call_file x → disk_file new.noted f ≡ disk_file old.noted f
  elsewhere f ne = file_still old.noted new.noted x is f ne

  -- no file gets shorter, if that of the call does not
  goes_more : old.counts.faults ≤ new.counts.faults
      → length (disk_file old.noted (call_file x)).seen ≤ length (disk_file new.noted (call_file x)).seen → DiskGoesOn mem_disk old new
  goes_more le more = record {
    faults = le;
    tells = refl;
    size = λ f. elim (cases_eq f (call_file x)) [
      | inl e ↦ subst (λ (k : ℕ). length (disk_file old.noted k).seen ≤ length (disk_file new.noted k).seen) (sym e) more
      | inr ne ↦ omega (arith, ap (λ (s : FileState). length s.seen) (elsewhere f ne))
    ];
  }

pends_spoiled : (at m n : ℕ) (s : FileState) → AreImages s → at ≤ length s.seen → m ≤ n → Pends at n (file_view s) (file_view (file_spoiled at m s))
pends_spoiled at m n s good inside le = record {
  told = λ i b out told. outside_same at m s.told i (elim out [ inl lt ↦ inl lt | inr ge ↦ inr (omega (arith, ge, le)) ]) ∙ told;
  seen = λ i b out seen. seen;
  least = omega arith;
  most = omega (arith, length-overwritten s.ones (replicate m 1) at (omega (arith, inside, good.seen_in)), many m, le);
}

pends_written : (at : ℕ) (bytes : List ℕ) (s : FileState) → AreImages s → at ≤ length s.seen
    → Pends at (length bytes) (file_view s) (file_view (file_written at bytes s))
pends_written at bytes s good inside =
    let p = pends_spoiled at (length bytes) (length bytes) s good inside (omega arith) in
    record { told = p.told; seen = λ i b out seen. told_over s.seen bytes at i b out seen; least = p.least; most = p.most }

writes_spoiled : (old new : DiskState) (file at m n : ℕ) → new.noted ≡ old.noted ++ call.Spoiled file at m ∷ [] → m ≤ n → old.counts.faults ≤ new.counts.faults
    → at ≤ length (disk_file old.noted file).seen → DiskWrites mem_disk file at n old new
writes_spoiled old new file at m n is le faults inside =
    let x = call.Spoiled file at m in
    let s = disk_file old.noted file in
    let here = now_is old new x is file ∙ after_spoil file at m s in
    let size : length (disk_file new.noted file).seen ≡ length s.seen = ap (λ (z : FileState). length z.seen) here in
    record {
      goes_on = goes_more old new x is faults (omega (arith, size));
      grows = record { most = omega (arith, size); others = λ f ne. ap (λ (z : FileState). length z.seen) (elsewhere old new x is f ne) };
      pending = λ tells. subst (λ (z : FileState). Pends at n (file_view s) (file_view z)) (sym here)
          (pends_spoiled at m n s (images_now old.noted file) inside le);
      elsewhere = λ tells f ne. ap file_view (elsewhere old new x is f ne);
      time = λ tells. elapses_more old new x is;
    }

-- what a read gives behind a write
pub seen_written : (old new : List DiskCall) (file at : ℕ) (bytes : List ℕ) → NotesWrite file at bytes old new
    → (disk_file new file).seen ≡ overwritten (disk_file old file).seen at bytes
seen_written old new file at bytes noted =
    ap (λ (z : FileState). z.seen) (file_next old new (call.Wrote file at noted.0) noted.2 file ∙ after_write file at noted.0 (disk_file old file))
    ∙ ap (λ (b : List ℕ). overwritten (disk_file old file).seen at b) noted.1

writes_written : (old new : DiskState) (file at : ℕ) (bytes : List ℕ)
    → ((v : Vec ℕ Global) × (v.items ≡ bytes) × (new.noted ≡ old.noted ++ call.Wrote file at v ∷ []))
    → old.counts.faults ≤ new.counts.faults → at ≤ length (disk_file old.noted file).seen → DiskWrites mem_disk file at (length bytes) old new
writes_written old new file at bytes noted faults inside =
    let x = call.Wrote file at noted.0 in
    let s = disk_file old.noted file in
    let here : disk_file new.noted file ≡ file_written at bytes s =
    now_is old new x noted.2 file ∙ after_write file at noted.0 s ∙ ap (λ (b : List ℕ). file_written at b s) noted.1 in
    let size : length (disk_file new.noted file).seen ≡ max (length s.seen) (at + length bytes) =
    ap (λ (z : FileState). length z.seen) here ∙ length-overwritten s.seen bytes at inside in
    record {
      goes_on = goes_more old new x noted.2 faults (omega (arith, size));
      grows = record { most = omega (arith, size); others = λ f ne. ap (λ (z : FileState). length z.seen) (elsewhere old new x noted.2 f ne) };
      pending = λ tells. subst (λ (z : FileState). Pends at (length bytes) (file_view s) (file_view z)) (sym here)
          (pends_written at bytes s (images_now old.noted file) inside);
      elsewhere = λ tells f ne. ap file_view (elsewhere old new x noted.2 f ne);
      time = λ tells. elapses_more old new x noted.2;
    }

-- a write, whatever was noted of it
pub writes_entered : {old new : DiskState} {file at : ℕ} (due room : Bool) (bytes : List ℕ) → IsEntered due room file at bytes old.noted new.noted
    → old.counts.faults ≤ new.counts.faults → at ≤ length (disk_file old.noted file).seen → DiskWrites mem_disk file at (length bytes) old new
writes_entered {old} {new} {file} {at} due false bytes is faults inside = writes_nothing old new is file at (length bytes) faults
writes_entered {old} {new} {file} {at} true true bytes is faults inside = writes_spoiled old new file at (min (length bytes) (2 ^ 61 - 1 - at)) (length bytes)
    is (omega arith) faults inside
writes_entered {old} {new} {file} {at} false true bytes is faults inside = writes_written old new file at bytes is faults inside

-- a write that was not due to fail and found room was noted
pub written_entered : (file at : ℕ) (bytes : List ℕ) (old new : List DiskCall) (due room : Bool) → IsEntered due room file at bytes old new
    → due ≡ false → room ≡ true
    → NotesWrite file at bytes old new
written_entered file at bytes old new true room is going rest = absurd (cc going)
written_entered file at bytes old new false false is going rest = absurd (cc rest)
written_entered file at bytes old new false true is going rest = is

-- what a sync leaves
settled_now : (old new : List DiskCall) (file : ℕ) → NotesSync file old new → disk_file new file ≡ file_settled (disk_file old file).seen
settled_now old new file is = file_next old new (call.Settled file) is file ∙ after_sync file (disk_file old file)

is_settled : (s : List ℕ) → IsSettled s (file_view (file_settled s))
is_settled s = record { seen = refl; told = λ i. refl; least = refl; most = refl }

syncs_settled : (old new : DiskState) (file : ℕ) → new.noted ≡ old.noted ++ call.Settled file ∷ [] → old.counts.faults ≤ new.counts.faults
    → DiskSyncs mem_disk file old new
syncs_settled old new file is faults =
    let x = call.Settled file in
    let size : length (disk_file new.noted file).seen ≡ length (disk_file old.noted file).seen =
    ap (λ (z : FileState). length z.seen) (settled_now old.noted new.noted file is) in
    record {
      goes_on = goes_more old new x is faults (omega (arith, size));
      sizes = λ f. elim (cases_eq f file) [
        | inl e ↦ subst (λ (k : ℕ). length (disk_file new.noted k).seen ≡ length (disk_file old.noted k).seen) (sym e) size
        | inr ne ↦ ap (λ (z : FileState). length z.seen) (elsewhere old new x is f ne)
      ];
      elsewhere = λ tells f ne. ap file_view (elsewhere old new x is f ne);
      time = λ tells. elapses_more old new x is;
    }

-- a sync, whatever was noted of it
pub syncs_noted : {old new : DiskState} {file : ℕ} (due room : Bool) → IsNoted due room file old.noted new.noted
    → old.counts.faults ≤ new.counts.faults → DiskSyncs mem_disk file old new
syncs_noted {old} {new} {file} true room is faults = syncs_nothing old new is file faults
syncs_noted {old} {new} {file} false false is faults = syncs_nothing old new is file faults
syncs_noted {old} {new} {file} false true is faults = syncs_settled old new file is faults

pub settled_noted : (old new : List DiskCall) (file : ℕ) (due room : Bool) → IsNoted due room file old new → due ≡ false → room ≡ true
    → IsSettled (disk_file old file).seen (file_view (disk_file new file))
settled_noted old new file true room is going rest = absurd (cc going)
settled_noted old new file false false is going rest = absurd (cc rest)
settled_noted old new file false true is going rest =
    subst (λ (z : FileState). IsSettled (disk_file old file).seen (file_view z)) (sym (settled_now old new file is)) (is_settled (disk_file old file).seen)

-- a call that was not due to fail and found room answers Ok, and no other does
pub on_ok : {T E : Type 0} (r : Result T E) (due room : Bool) (P : Type 0) → is_err r ≡ cond room due true → (due ≡ false → room ≡ true → P) → OnOk r P
on_ok (Ok y) false true P is p = p refl refl
on_ok (Ok y) true true P is p = absurd (cc is)
on_ok (Ok y) due false P is p = absurd (cc is)
on_ok (Err e) due room P is p = tt

-- what is held, after a call
holds_more : (noted : List DiskCall) (held : List (List ℕ)) (x : DiskCall) → ((f : ℕ) (s : FileState) → (file_after f s x).seen ≡ s.seen) → HoldsNow noted held
    → HoldsNow (noted ++ x ∷ []) held
holds_more noted held x same h = λ f. h f ∙ sym (ap (λ (z : FileState). z.seen) (after_more f (file_settled []) noted x) ∙ same f (disk_file noted f))

seen_cond : (b : Bool) (s t : FileState) → t.seen ≡ s.seen → (cond b t s).seen ≡ s.seen
seen_cond true s t e = e
seen_cond false s t e = refl

pub spoil_seen : (file at n f : ℕ) (s : FileState) → (file_after f s (call.Spoiled file at n)).seen ≡ s.seen
spoil_seen file at n f s = seen_cond _ s (file_spoiled at n s) refl

pub sync_seen : (file f : ℕ) (s : FileState) → (file_after f s (call.Settled file)).seen ≡ s.seen
sync_seen file f s = seen_cond _ s (file_settled s.seen) refl

pub holds_noted : (done : Bool) (noted more : List DiskCall) (held : List (List ℕ)) (x : DiskCall)
    → ((f : ℕ) (s : FileState) → (file_after f s x).seen ≡ s.seen)
    → (done ≡ true → more ≡ noted ++ x ∷ []) → (done ≡ false → more ≡ noted) → HoldsNow noted held → HoldsNow more held
holds_noted true noted more held x same is none h = subst (λ (l : List DiskCall). HoldsNow l held) (sym (is refl)) (holds_more noted held x same h)
holds_noted false noted more held x same is none h = subst (λ (l : List DiskCall). HoldsNow l held) (sym (none refl)) h

holds_over : (noted : List DiskCall) (held : List (List ℕ)) (file at : ℕ) (v : Vec ℕ Global) → file < length held → HoldsNow noted held
    → HoldsNow (noted ++ call.Wrote file at v ∷ []) (set held file (overwritten (slice_index_or held file []) at v.items))
holds_over noted held file at v within h = λ f.
    let s = disk_file noted f in
    let x = call.Wrote file at v in
    let next = overwritten (get_or held file []) at v.items in
    let more = ap (λ (z : FileState). z.seen) (after_more f (file_settled []) noted x) in
    elim (cases_eq f file) [
      | inl e ↦
          subst (λ (k : ℕ). get_or (set held file next) k [] ≡ overwritten (get_or held k []) at v.items) (sym e) (get_or-set_same held file next [] within)
          ∙ ap (λ (l : List ℕ). overwritten l at v.items) (h f)
          ∙ sym (more ∙ subst (λ (k : ℕ). (file_after k s x).seen ≡ overwritten s.seen at v.items) (sym e)
          (ap (λ (z : FileState). z.seen) (after_write file at v s)))
      | inr ne ↦ get_or-set_other held file f next [] ne ∙ h f ∙ sym (more ∙ ap (λ (z : FileState). z.seen) (after_elsewhere f s x ne))
    ]

pub holds_written : (noted more : List DiskCall) (held next : List (List ℕ)) (file at : ℕ) (v : Vec ℕ Global) → file < length held
    → more ≡ noted ++ call.Wrote file at v ∷ []
    → next ≡ set held file (overwritten (slice_index_or held file []) at v.items) → HoldsNow noted held → HoldsNow more next
holds_written noted more held next file at v within is put h =
    subst (λ (l : List DiskCall). HoldsNow l next) (sym is)
    (subst (λ (z : List (List ℕ)). HoldsNow (noted ++ call.Wrote file at v ∷ []) z) (sym put) (holds_over noted held file at v within h))

pub counted_faults : (failed : Bool) (old new : CallCounts) → IsCounted failed old new → old.faults ≤ new.faults
counted_faults true old new is = omega (arith, is.faults)
counted_faults false old new is = omega (arith, is.faults)
