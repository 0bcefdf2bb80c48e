mod Colours
mod Forms
mod Nodes
mod Triples
mod Checked
mod Encoded
mod Searching
