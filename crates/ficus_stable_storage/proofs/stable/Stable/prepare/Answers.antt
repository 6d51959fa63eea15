use Rattle.std.proofs.Common.{◌≡◌, ◌≤◌, ℕ, List, length, ◌∙◌, ap, ap₂, subst}
use Rattle.ficus_keeper.specs.Framed.{body_in}
use Rattle.ficus_keeper.proofs.Results.{in_ok}
use Rattle.ficus_stable_storage.proofs.leads.Led.{held_at}
use Rattle.ficus_stable_storage.proofs.stable.Stable.prepare.Goals as goal

pub returns : goal.returns
returns g c =
    let keeper = c.args.self.now.keeper in
    let wanted = c.in_ok-frame_wanted.ensures in
    let size : c.body_size.result ≡ length (body_in c.frame_wanted.new.buffer.items) =
    c.body_size.ensures.size ∙ ap (λ (l : List ℕ). length (body_in l)) c.deref.ensures.value in
    record {
      prepared = in_ok c.reserve.result
          (λ has. record {
            framed = wanted.framed;
            image = λ is. wanted.image (c.wants.ensures.image is);
            noted = λ is. wanted.noted (c.wants.ensures.record_ is);
            takes = subst (g.K.Keep.Allows keeper) size has.takes;
            room_a = subst (λ (n : ℕ). g.K.Keep.size_of keeper n ≤ g.D.Disk.room c.reserve.new.disks.a) size has.room_a;
            room_b = subst (λ (n : ℕ). g.K.Keep.size_of keeper n ≤ g.D.Disk.room c.reserve.new.disks.b) size has.room_b;
          })
          c.reserve.ensures.room;
      ready = λ told saved ready.
          let same = c.reserve.ensures.keeps.same told in
          record {
            holds = held_at _ _ saved (ap₂ g.K.Keep.kept same.a same.b) ready.holds;
            settled = c.reserve.ensures.settled told ready.settled;
          };
      same = c.reserve.ensures.keeps.same;
      crash = c.reserve.ensures.keeps.crash;
      moments = c.reserve.ensures.keeps.moments;
      spans = c.reserve.ensures.keeps.spans;
      armings = c.reserve.ensures.spares.armings;
      steady = c.reserve.ensures.spares.steady;
      fuses = c.reserve.ensures.spares.fuses;
    }
