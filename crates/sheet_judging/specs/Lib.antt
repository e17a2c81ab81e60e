-- What block 0 of a sheet says, and the blocks of its labels.
pub mod HeadBlock
pub mod LabelBlocks
