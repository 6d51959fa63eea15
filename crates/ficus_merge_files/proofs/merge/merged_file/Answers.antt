use Rattle.std.proofs.Common.{refl}
use Rattle.ficus_file.specs.declared.file.FileReplica.{FileReplica}
use Rattle.ficus_merge_files.proofs.Current.{text_of_files, ordered_of, merged_held}
use Rattle.ficus_merge_files.proofs.merge.merged_file.Goals as goal

pub merged_versions-requires-clause-one_text : goal.merged_versions-requires-clause-one_text
merged_versions-requires-clause-one_text c = text_of_files c.args.mine.now c.args.theirs.now c.requires.mine c.requires.theirs c.requires.can

pub merged_versions-requires-clause-mine : goal.merged_versions-requires-clause-mine
merged_versions-requires-clause-mine c = ordered_of c.args.mine.now c.requires.mine.well_formed

pub merged_versions-requires-clause-theirs : goal.merged_versions-requires-clause-theirs
merged_versions-requires-clause-theirs c = ordered_of c.args.theirs.now c.requires.theirs.well_formed

pub returns-clause-held : goal.returns-clause-held
returns-clause-held c =
    let both : FileReplica = record { id = c.args.mine.now.id; kind = c.args.mine.now.kind; versions = c.in_ok-versions.versions; covered = c.join.result } in
    merged_held c.args.mine.now c.args.theirs.now both c.requires.mine c.requires.theirs c.requires.can refl refl c.in_ok-versions.ensures
