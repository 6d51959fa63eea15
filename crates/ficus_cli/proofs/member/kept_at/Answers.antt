use Rattle.std.proofs.Common.{◌≡◌, ℕ, List, Option, None, Some, ap, subst, sym, ◌∙◌}
use Rattle.std.specs.Prelude.{IfSome}
use Rattle.ficus_disk.specs.declared.pair.Pair.{Pair}
use Rattle.ficus_file_disk.specs.Place.{Placed}
use Rattle.ficus_folder_mailbox.specs.Mail.{folder_of}
use Rattle.ficus_here_or_away.specs.Pairs.{IsAwayPair}
use Rattle.ficus_here_or_away.specs.declared.here_or_away.HereOrAway.{HereOrAway}
use Rattle.ficus_ids.specs.Members.{IsMember}
use Rattle.ficus_cli.proofs.member.kept_at.Goals as goal

-- what there is of two that are the same
one_of : {A : Type 0} → A → Option A → A
one_of other None = other
one_of other (Some x) = x

same_some : {A : Type 0} (one two : A) → ◌≡◌ {A = Option A} (Some one) (Some two) → one ≡ two
unfolding one_of
same_some one two same = ap (one_of one) same

pub returns : goal.returns
returns g c =
    let pairs = c.in_ok-disks.ensures in
    let lies = c.in_ok-beside.ensures in
    record {
      count = pairs.count;
      own = λ pair at. record {
        files = c.in_ok-own.own;
        is = same_some pair _ (sym at.is ∙ pairs.own);
        lie = c.in_ok-own.ensures;
      };
      others = λ r pair other at.
          subst (λ found. IfSome found IsAwayPair) at.is
          (pairs.others r (subst (λ n. IsMember n r) pairs.count at.member) other);
      slot_a = lies.slot_a;
      slot_b = lies.slot_b;
      volume = lies.volume;
      mailbox = ap (λ mailbox. mailbox.folder) c.in_ok-mailbox.ensures ∙ ap (λ root. folder_of root c.args.place.now.replica) c.as_str.ensures.value;
    }
