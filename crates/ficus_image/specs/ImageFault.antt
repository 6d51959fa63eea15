-- What is said of an image that isn't read.
use Rattle.ficus_formats.specs.declared.fault.ReadFault.{ReadFault}
use Rattle.ficus_formats.specs.declared.fault.ReadFault.TheVariants as read
use Rattle.ficus_image.specs.declared.image_fault.ImageFault.{ImageFault}
use Rattle.ficus_image.specs.declared.image_fault.ImageFault.TheVariants.{NotImage, Memory}

-- the bytes spell none, or memory was refused
abbrev pub told : ReadFault → ImageFault
told read.Unspelled = NotImage
told read.Memory = Memory
