-- What a call of the disk in memory is to the disk that stands in for another.
use Rattle.std.proofs.Common.{◌≡◌, ◌⊎◌, ◌∙◌, ◌+◌, ◌≤◌, ℕ, List, Result, Ok, Err, arith, inl, inr, length, length-append, length-drop, length-take, max, rules, subst, sym}
use Rattle.std.specs.Prelude.{OnErr, OnOk, ⊤}
use Rattle.ficus_disk.specs.Bytes.{patch}
use Rattle.ficus_disk.specs.Calls.{BurnsAtWrite, Keeps, Looks, Reopens, Unarms, Writes}
use Rattle.ficus_disk.specs.Crash.{Only}
use Rattle.ficus_disk.specs.MemDisk.{MayLeave, fuse_in, image_in, room_in, seen_in}
use Rattle.ficus_disk.specs.declared.mem_disk.MemDisk.{MemDisk}
use Rattle.ficus_here_or_away.specs.StandIn.{MayBeLeft, MightBeLeft, fuse_of, image_of, moment_of, room_of, seen_of}
use Rattle.ficus_here_or_away.specs.declared.stand_in.StandIn.{StandIn}

pub length-patch : (old items : List ℕ) (at : ℕ) → at ≤ length old
    → length (patch old at items) ≡ max (length old) (at + length items)
length-patch old items at le = simp (length-append, length-take, length-drop) (omega arith)

follows_ok : {A E P Q : Type 0} (result : Result A E) → (P → Q) → OnOk result P → OnOk result Q
follows_ok (Ok a) f p = f p
follows_ok (Err e) f p = tt

follows_err : {A E P Q : Type 0} (result : Result A E) → (P → Q) → OnErr result P → OnErr result Q
follows_err (Ok a) f p = tt
follows_err (Err e) f p = f p

-- the call answers what the disk did
module _ {A E : Type 0} (was now : StandIn) (given result : Result A E) (same : result ≡ given) where
  pub looks_of : Looks fuse_in image_in was.disk now.disk given → Looks fuse_of image_of was now result
  looks_of looks = subst (λ (r : Result A E). Looks fuse_of image_of was now r) (sym same) (record {
    answers = looks.answers;
    fuse = looks.fuse;
    images = looks.images;
  })

  module _ (at : ℕ) (bytes : List ℕ) where
    pub burns_of : BurnsAtWrite fuse_in image_in at bytes was.disk now.disk given
        → BurnsAtWrite fuse_of image_of at bytes was now result
    burns_of burns = subst (λ (r : Result A E). BurnsAtWrite fuse_of image_of at bytes was now r) (sym same) (record {
      answers = burns.answers;
      fuse = burns.fuse;
      images = burns.images;
    })

    pub writes_of : Writes ⊤ seen_in MayLeave (λ _. 0) (λ _ _ _. ⊥) room_in at bytes was.disk now.disk given
        → Writes (at ≤ length (seen_of was)) seen_of MayBeLeft moment_of MightBeLeft room_of at bytes was now result
    writes_of writes = subst
        (λ (r : Result A E). Writes (at ≤ length (seen_of was)) seen_of MayBeLeft moment_of MightBeLeft room_of at bytes
        was now r)
        (sym same) (record {
          written = λ _. writes.written tt;
          begun = λ _. writes.begun tt;
          crash = writes.crash;
          moments = writes.moments;
          room = omega (arith, writes.room);
        })

  -- the disk was opened anew, and asked for its size
  module _ (mid : MemDisk) (kept : Keeps ⊤ seen_in MayLeave (λ _. 0) (λ _ _ _. ⊥) room_in mid now.disk) where
    only_then : Only (seen_in mid) (MayLeave mid) → Only (seen_of now) (MayBeLeft now)
    only_then only = λ c left. only c (kept.crash c left) ∙ sym (kept.seen tt)

    begun_then : (seen_in mid ≡ seen_of was) ⊎ Only (seen_in mid) (MayLeave mid)
        → (seen_of now ≡ seen_of was) ⊎ Only (seen_of now) (MayBeLeft now)
    begun_then (inl nothing) = inl (kept.seen tt ∙ nothing)
    begun_then (inr only) = inr (only_then only)

    pub reopens_then : Reopens ⊤ seen_in MayLeave (λ _. 0) (λ _ _ _. ⊥) room_in was.disk mid given
        → Reopens ⊤ seen_of MayBeLeft moment_of MightBeLeft room_of was now result
    reopens_then reopens = subst
        (λ (r : Result A E). Reopens ⊤ seen_of MayBeLeft moment_of MightBeLeft room_of was now r)
        (sym same) (record {
          left = λ _. subst (λ (bytes : List ℕ). MayBeLeft was bytes) (sym (kept.seen tt)) (reopens.left tt);
          durable = λ _. follows_ok given only_then (reopens.durable tt);
          begun = λ _. follows_err given begun_then (reopens.begun tt);
          crash = λ c left. reopens.crash c (kept.crash c left);
          moments = search rules;
          room = omega (arith, reopens.room, kept.room);
        })

    pub unarms_then : fuse_in now.disk ≡ fuse_in mid → Unarms seen_in fuse_in image_in was.disk mid given
        → Unarms seen_of fuse_of image_of was now result
    unarms_then fuse opened = subst (λ (r : Result A E). Unarms seen_of fuse_of image_of was now r) (sym same) (record {
      opens = opened.opens;
      unarmed = fuse ∙ opened.unarmed;
      picked = kept.seen tt ∙ opened.picked;
    })
