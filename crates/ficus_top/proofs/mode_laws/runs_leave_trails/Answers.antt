use Rattle.std.proofs.Common.{inl, inr}
use Rattle.ficus_top.proofs.ModeLaws.{front_trail, killed_trail}
use Rattle.ficus_top.proofs.mode_laws.runs_leave_trails.Goals as goal

pub returns : goal.returns
returns g c = λ before end was now disks later status does source told volume H stands crashes.
    let kills = does.killed source told volume H stands crashes in
    elim does.codes [
      | inl zero ↦
          let run = (kills.whole zero).killed in
          inr (run.ends.after, killed_trail run.killed)
      | inr (inl two) ↦ inl (does.rests (inr (inl two)))
      | inr (inr (inl three)) ↦ elim (kills.cut three) [
        | inl none ↦ inl none.besides.rests
        | inr front ↦ inr (front.killed.ends.after, front_trail front.killed.killed)
      ]
      | inr (inr (inr (inl four))) ↦ inl (does.rests (inl (inr (inl four))))
      | inr (inr (inr (inr (inl five)))) ↦
          let front = (kills.prefix five).killed in
          inr (front.ends.after, front_trail front.killed)
      | inr (inr (inr (inr (inr (inl six))))) ↦ inl (does.rests (inr (inr (inl six))))
      | inr (inr (inr (inr (inr (inr (inl seven)))))) ↦ inl (does.rests (inr (inr (inr (inl seven)))))
      | inr (inr (inr (inr (inr (inr (inr eight)))))) ↦ inl (does.rests (inl (inr (inr eight))))
    ]
