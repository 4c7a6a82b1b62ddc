-- What a recorded write or cut does, and one that failed.
use Rattle.std.proofs.Common.{◌≡◌, ◌⊎◌, inl, inr, ⊎_elim, ℕ, ◌+◌, ◌<◌, ◌^◌, List, [], ◌∷◌, ◌++◌, length, reverse, refl, sym, ◌∙◌, ap, subst, arith, Result, Ok, Err, OnOk, OnErr}
use Rattle.std.proofs.lemmas.List.{reverse-append}
use Rattle.vault_disk.specs.Disk.{Disk}
use Rattle.vault_disk.specs.Steps.{written, cut_to, Wrote, WasCut, Elapses}
use Rattle.vault_disk.specs.Log.{Log}
use Rattle.vault_disk.specs.Memory.{Files, content, memory_disk}
use Rattle.vault_disk.specs.MemoryLaws.{changed_at, torn_same, shortened_same}
use Rattle.vault_disk.specs.Stored.{bytes_of}
use Rattle.vault_disk.specs.declared.call.Call.{Call}
use Rattle.vault_disk.specs.declared.call.Call.TheVariants as call

abbrev Done : Type 0
Done = Unit {0}

-- the machine of a recording
abbrev pub disk_of : Log → ℕ → ℕ → Disk
disk_of log faults send_faults = memory_disk (bytes_of log.first) (reverse log.calls) faults send_faults

-- the recording with one call more
abbrev pub with_call : Log → Call → Log
with_call log c = record log { calls = log.calls ++ c ∷ [] }

waited : (start : Files) (calls : List Call) (f f' s s' : ℕ) → Elapses (memory_disk start calls f s) (memory_disk start calls f' s')
waited start calls f f' s s' = record {
  during = record { later = omega arith; each = λ t c b le left. inl left };
  keeps = λ t c b le left. left;
}

elapsed : (start : Files) (calls : List Call) (new : Call) (f f' s s' : ℕ) → Elapses (memory_disk start calls f s) (memory_disk start (new ∷ calls) f' s')
elapsed start calls new f f' s s' = record {
  during = record { later = omega arith; each = λ t c b le left. ⊎_elim (λ now. inr now) (λ past. inl past.1) left };
  keeps = λ t c b le left. inr (le, left);
}

unwritten : {E : Type 0} (file at : ℕ) (bytes : List ℕ) (start : Files) (calls : List Call) (f f' s s' : ℕ) (e : E) → Wrote {T = Done} {E = E} file at bytes (memory_disk start calls f s) (memory_disk start calls f' s') (Err e)
unwritten file at bytes start calls f f' s s' e = record {
  short = tt;
  seen = tt;
  left = λ c left. (c, left, record { inside = torn_same (c file) at (length bytes); others = λ g ne. refl });
  time = waited start calls f f' s s';
}

written_not : {E : Type 0} (file at : ℕ) (bytes : List ℕ) (start : Files) (calls : List Call) (f f' s s' : ℕ) (e : E) → Wrote {T = Done} {E = E} file at bytes (memory_disk start calls f s) (memory_disk start (call.Other ∷ calls) f' s') (Err e)
written_not file at bytes start calls f f' s s' e = record {
  short = tt;
  seen = tt;
  left = λ c left. (c, left, record { inside = torn_same (c file) at (length bytes); others = λ g ne. refl });
  time = elapsed start calls call.Other f f' s s';
}

written_now : {E : Type 0} (file at : ℕ) (bytes : List ℕ) (start : Files) (calls : List Call) (f f' s s' : ℕ) → at + length bytes < 2 ^ 63 → Wrote {T = Done} {E = E} file at bytes (memory_disk start calls f s) (memory_disk start (call.Wrote file at bytes ∷ calls) f' s') (Ok tt)
written_now file at bytes start calls f f' s s' fits = record {
  short = fits;
  seen = changed_at (λ o n. n ≡ written o at bytes) file (content start calls) (λ o. written o at bytes) refl;
  left = λ c left. left;
  time = elapsed start calls (call.Wrote file at bytes) f f' s s';
}

uncut : {E : Type 0} (file n : ℕ) (start : Files) (calls : List Call) (f f' s s' : ℕ) (e : E) → WasCut {T = Done} {E = E} file n (memory_disk start calls f s) (memory_disk start calls f' s') (Err e)
uncut file n start calls f f' s s' e = record {
  short = tt;
  seen = tt;
  left = λ c left. (c, left, record { inside = shortened_same (c file) n; others = λ g ne. refl });
  time = waited start calls f f' s s';
}

cut_not : {E : Type 0} (file n : ℕ) (start : Files) (calls : List Call) (f f' s s' : ℕ) (e : E) → WasCut {T = Done} {E = E} file n (memory_disk start calls f s) (memory_disk start (call.Other ∷ calls) f' s') (Err e)
cut_not file n start calls f f' s s' e = record {
  short = tt;
  seen = tt;
  left = λ c left. (c, left, record { inside = shortened_same (c file) n; others = λ g ne. refl });
  time = elapsed start calls call.Other f f' s s';
}

cut_now : {E : Type 0} (file n : ℕ) (start : Files) (calls : List Call) (f f' s s' : ℕ) → n < 2 ^ 63 → WasCut {T = Done} {E = E} file n (memory_disk start calls f s) (memory_disk start (call.Resized file n ∷ calls) f' s') (Ok tt)
cut_now file n start calls f f' s s' fits = record {
  short = fits;
  seen = changed_at (λ o m. m ≡ cut_to o n) file (content start calls) (λ o. cut_to o n) refl;
  left = λ c left. left;
  time = elapsed start calls (call.Resized file n) f f' s s';
}

-- a fact on the machine with one call more
more : (P : Disk → Type 0) (was old new : Log) (c : Call) (f s : ℕ) → old ≡ was → new ≡ with_call old c → P (memory_disk (bytes_of was.first) (c ∷ reverse was.calls) f s) → P (disk_of new f s)
more P was old new c f s old_is new_is holds =
    let every : new ≡ with_call was c = new_is ∙ ap (λ (l : Log). with_call l c) old_is in
    let turned : reverse (was.calls ++ c ∷ []) ≡ c ∷ reverse was.calls = reverse-append was.calls (c ∷ []) in
    subst (λ (l : Log). P (disk_of l f s)) (sym every) (subst (λ (l : List Call). P (memory_disk (bytes_of was.first) l f s)) (sym turned) holds)

same : (P : Disk → Type 0) (was old new : Log) (f s : ℕ) → old ≡ was → new ≡ old → P (disk_of was f s) → P (disk_of new f s)
same P was old new f s old_is new_is holds = subst (λ (l : Log). P (disk_of l f s)) (sym (new_is ∙ old_is)) holds

pub failed_write : {E : Type 0} (file at : ℕ) (bytes : List ℕ) (was old new : Log) (f f' s s' : ℕ) (e : E) → old ≡ was → (new ≡ old) ⊎ (new ≡ with_call old call.Other) → Wrote {T = Done} {E = E} file at bytes (disk_of was f s) (disk_of new f' s') (Err e)
failed_write file at bytes was old new f f' s s' e old_is (inl new_is) =
    same (λ d. Wrote {T = Done} file at bytes (disk_of was f s) d (Err e)) was old new f' s' old_is new_is (unwritten file at bytes (bytes_of was.first) (reverse was.calls) f f' s s' e)
failed_write file at bytes was old new f f' s s' e old_is (inr new_is) =
    more (λ d. Wrote {T = Done} file at bytes (disk_of was f s) d (Err e)) was old new call.Other f' s' old_is new_is (written_not file at bytes (bytes_of was.first) (reverse was.calls) f f' s s' e)

pub kept_write : {E : Type 0} (file at : ℕ) (bytes : List ℕ) (was old new : Log) (f f' s s' : ℕ) (result : Result Done E) → at + length bytes < 2 ^ 63 → old ≡ was → OnOk result (new ≡ with_call old (call.Wrote file at bytes)) → OnErr result (new ≡ old)
    → Wrote {T = Done} {E = E} file at bytes (disk_of was f s) (disk_of new f' s') result
kept_write {E = E} file at bytes was old new f f' s s' (Ok u) fits old_is ok err =
    more (λ d. Wrote {T = Done} {E = E} file at bytes (disk_of was f s) d (Ok tt)) was old new (call.Wrote file at bytes) f' s' old_is ok (written_now file at bytes (bytes_of was.first) (reverse was.calls) f f' s s' fits)
kept_write file at bytes was old new f f' s s' (Err e) fits old_is ok err = failed_write file at bytes was old new f f' s s' e old_is (inl err)

pub failed_cut : {E : Type 0} (file n : ℕ) (was old new : Log) (f f' s s' : ℕ) (e : E) → old ≡ was → (new ≡ old) ⊎ (new ≡ with_call old call.Other) → WasCut {T = Done} {E = E} file n (disk_of was f s) (disk_of new f' s') (Err e)
failed_cut file n was old new f f' s s' e old_is (inl new_is) =
    same (λ d. WasCut {T = Done} file n (disk_of was f s) d (Err e)) was old new f' s' old_is new_is (uncut file n (bytes_of was.first) (reverse was.calls) f f' s s' e)
failed_cut file n was old new f f' s s' e old_is (inr new_is) =
    more (λ d. WasCut {T = Done} file n (disk_of was f s) d (Err e)) was old new call.Other f' s' old_is new_is (cut_not file n (bytes_of was.first) (reverse was.calls) f f' s s' e)

pub kept_cut : {E : Type 0} (file n : ℕ) (was old new : Log) (f f' s s' : ℕ) (result : Result Done E) → n < 2 ^ 63 → old ≡ was → OnOk result (new ≡ with_call old (call.Resized file n)) → OnErr result (new ≡ old)
    → WasCut {T = Done} {E = E} file n (disk_of was f s) (disk_of new f' s') result
kept_cut {E = E} file n was old new f f' s s' (Ok u) fits old_is ok err =
    more (λ d. WasCut {T = Done} {E = E} file n (disk_of was f s) d (Ok tt)) was old new (call.Resized file n) f' s' old_is ok (cut_now file n (bytes_of was.first) (reverse was.calls) f f' s s' fits)
kept_cut file n was old new f f' s s' (Err e) fits old_is ok err = failed_cut file n was old new f f' s s' e old_is (inl err)
