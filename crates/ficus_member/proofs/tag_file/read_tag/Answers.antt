use Rattle.std.proofs.Common.{rules, List, ℕ, Option, subst, sym}
use Rattle.std.specs.Prelude.{IfNone}
use Rattle.ficus_opening.specs.declared.fault.WorldFault.TheVariants.{Image}
use Rattle.ficus_opening.proofs.Faults.{same_err, same_image}
use Rattle.ficus_member.specs.TagFile.{SpellsNoTag}
use Rattle.ficus_member.proofs.tag_file.read_tag.Goals as goal

pub returns-in-Ok-None : goal.returns-in-Ok-None
returns-in-Ok-None g c = record {
  spelled = λ tells. tt;
  image = λ tells r is. (
    same_image r c.args.me (sym (same_err {T = List ℕ} (Image c.args.me) (Image r) is)),
    subst (λ (found : Option (List ℕ)). IfNone found (SpellsNoTag (g.N.Disk.seen c.args.file.now)))
        c.in-Ok-None.field-0-is (c.in-Ok-None.ensures.none tells),
  );
  kinds = search rules;
  asked = search rules;
  rests = c.read_line.ensures.rests;
}
